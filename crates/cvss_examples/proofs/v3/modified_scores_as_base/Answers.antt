use Rattle.std.proofs.Common.{sym, ◌∙◌}
use Rattle.cvss.specs.ScoresV3.{IsEnvironmentalScore}
use Rattle.cvss.specs.WeightsV3.{weights_of}
use Rattle.cvss_examples.proofs.EqualLemmas.{equal_counts}
use Rattle.cvss_examples.proofs.v3.modified_scores_as_base.Goals as goal

pub returns : goal.returns
returns c =
    let vector = c.args.vector.now in
    let modified = c.modified_scores_as_base.ensures vector.minor_version vector _ c.environmental_score.ensures.value in
    c.eq.ensures
    ∙ equal_counts (λ v. IsEnvironmentalScore v.minor_version (weights_of v)) (sym c.requires) (c.scores_are_unique.ensures.environmental _ _) _ _
    modified c.environmental_score-2.ensures.value
