use Rattle.std.proofs.Common.{◌≡◌, refl}
use Rattle.cvss.specs.ScoresV3.{IsBaseScore, IsTemporalScore, IsEnvironmentalScore}
use Rattle.cvss.specs.WeightsV3.{weights_of}
use Rattle.cvss_examples.proofs.EqualLemmas.{equal_counts}
use Rattle.cvss_examples.proofs.v3.not_defined_scores_as_absent.Goals as goal

both : {A B : Type 0} {a c : A} {b d : B} → a ≡ c → b ≡ d → ◌≡◌ {A = A × B} (a, b) (c, d)
both one other = λ i. (one i, other i)

pub returns : goal.returns
returns c =
    let v = c.args.left.now in
    let w = c.args.right.now in
    let weights = c.not_defined_weighs_as_absent.ensures v w c.requires.defined in
    let same = both c.requires.version weights in
    let once = c.scores_are_unique.ensures in
    let left = c.scores_of.ensures in
    let right = c.scores_of-2.ensures in
    let base = equal_counts (λ by. IsBaseScore by.0 by.1) same (once.base w.minor_version (weights_of w)) _ _ left.base right.base in
    let temporal = equal_counts (λ by. IsTemporalScore by.0 by.1) same (once.temporal w.minor_version (weights_of w)) _ _ left.temporal right.temporal in
    let environmental = equal_counts (λ by. IsEnvironmentalScore by.0 by.1) same (once.environmental w.minor_version (weights_of w)) _ _ left.environmental right.environmental in
    rw (c.eq.ensures, base, temporal, environmental) refl
