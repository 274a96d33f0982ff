use Rattle.std.proofs.Common.{sym, ◌∙◌}
use Rattle.cvss.specs.ScoresV4.{IsScore}
use Rattle.cvss_examples.proofs.EqualLemmas.{one_value}
use Rattle.cvss_examples.proofs.v4.supplemental_metrics_change_nothing.Goals as goal

pub returns-clause-score : goal.returns-clause-score
returns-clause-score c =
    let same = c.supplemental_metrics_change_nothing.ensures.score c.args.vector.now c.args.without.now c.requires.same in
    let scores = one_value IsScore same (c.scores_are_unique.ensures _) _ _ c.score.ensures.value c.score-2.ensures.value in
    let values = c.value.ensures ∙ scores ∙ sym c.value-2.ensures in
    cc

pub returns-clause-nomenclature : goal.returns-clause-nomenclature
returns-clause-nomenclature c =
    c.nomenclature.ensures
    ∙ c.supplemental_metrics_change_nothing.ensures.nomenclature c.args.vector.now c.args.without.now c.requires.same
    ∙ sym c.nomenclature-2.ensures
