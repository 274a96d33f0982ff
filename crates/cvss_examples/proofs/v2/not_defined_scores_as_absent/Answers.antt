use Rattle.std.proofs.Common.{refl}
use Rattle.cvss.specs.ScoresV2.{IsBaseScore, IsTemporalScore, IsEnvironmentalScore}
use Rattle.cvss.specs.WeightsV2.{weights_of}
use Rattle.cvss_examples.proofs.EqualLemmas.{equal_counts}
use Rattle.cvss_examples.proofs.v2.not_defined_scores_as_absent.Goals as goal

pub returns : goal.returns
returns c =
    let weights = c.not_defined_weighs_as_absent.ensures c.args.left.now c.args.right.now c.requires in
    let once = c.scores_are_unique.ensures in
    let left = c.scores_of.ensures in
    let right = c.scores_of-2.ensures in
    let base = equal_counts IsBaseScore weights (once.base (weights_of c.args.right.now)) _ _ left.base right.base in
    let temporal = equal_counts IsTemporalScore weights (once.temporal (weights_of c.args.right.now)) _ _ left.temporal right.temporal in
    let environmental = equal_counts IsEnvironmentalScore weights (once.environmental (weights_of c.args.right.now)) _ _ left.environmental right.environmental in
    rw (c.eq.ensures, base, temporal, environmental) refl
