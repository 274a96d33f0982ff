use Rattle.std.proofs.Common.{◌∷◌, [], bytes_eq, ap, sym, ◌∙◌}
use Rattle.std.specs.List.{position_from}
use Rattle.std.proofs.lemmas.Slice.Eq.{bytes_eq-Decides}
use Rattle.cvss_metric.proofs.SpellingLemmas.{found_place}
use Rattle.cvss_metric.proofs.v4.ReadingLemmas.{each}
use Rattle.cvss_metric.specs.v4.Table.{spellings_of}
use Rattle.cvss_metric.proofs.v4.metric.MetricValue.read_letter.Goals as goal

pub returns-clause-spelled : goal.returns-clause-spelled
returns-clause-spelled g c =
    let kind = g.Self.MetricValue.KIND in
    let found = sym c.in_ok-place_of_letter.was ∙ (c.place_of_letter.ensures ∙ ap (λ own. position_from (λ x. bytes_eq x (c.args.letter ∷ [])) 0 (spellings_of own)) c.KIND.ensures) in
    each c.at.result (λ metric at. rw at ((bytes_eq-Decides _ _).0 (found_place (λ x. bytes_eq x (c.args.letter ∷ [])) (spellings_of kind) c.in_ok-place_of_letter.field-0 found))) c.at.ensures.placed
