use Rattle.std.proofs.Common.{rules, [], ◌∷◌, bytes_eq, ap, ◌∙◌}
use Rattle.std.specs.List.{position_from}
use Rattle.std.proofs.lemmas.Iterator.{YieldsList-from_slice}
use Rattle.std.proofs.lemmas.Iterator.Adapters.{position_from-zero}
use Rattle.std.proofs.lemmas.Iterator.Search.{position_from_yields_List}
use Rattle.cvss_metric.proofs.SpellingLemmas.{position-map}
use Rattle.cvss_metric.proofs.v4.spelling.place_of_letter.Goals as goal
use borrow.Author.Tests.{tests}

pub returns : goal.returns
returns c =
    let found = position_from_yields_List (λ x. bytes_eq x.now (c.args.letter ∷ [])) _ _ c.position.result c.position.ensures.ran (YieldsList-from_slice c.spellings.result.now cc) (λ x b q k. search (rules, tests)) in
    found ∙ (position_from-zero (λ x. bytes_eq x.now (c.args.letter ∷ [])) c.spellings.result.now ∙ position-map (λ x. x.now) (λ x. bytes_eq x (c.args.letter ∷ [])) 0 c.spellings.result.now ∙ ap (position_from (λ x. bytes_eq x (c.args.letter ∷ [])) 0) c.spellings.ensures)
