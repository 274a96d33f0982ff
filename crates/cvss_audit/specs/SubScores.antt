-- The sub-scores that NVD gives beside a vector, in tenths: v2 guide, section 3.2.1; v3.0 specification, section 8.1;
-- v3.1 specification, section 7.1.
use Rattle.std.specs.Prelude.{◌≡◌, ℕ, ◌==◌, ◌⊎◌, ◌&&◌, pos, Bool, true, false, Option, Some, None}
use Rattle.cvss_vector.specs.declared.vector.Cvss.{Cvss}
use Rattle.cvss_vector.specs.declared.vector.Cvss.TheVariants.{CvssV20, CvssV30, CvssV31, CvssV40}
use Rattle.cvss_base.specs.Exact.{Exact, ◌over◌, whole, ◌⊕◌, ◌⊑◌, ◌⊏◌}
use Rattle.cvss_base.specs.Rounding.{half_above, half_below}
use Rattle.cvss_score.specs.v2.Scores as scores_v2
use Rattle.cvss_score.specs.v3.Scores as scores_v3
use Rattle.cvss_score.specs.declared.v3.weights.Weights.{Weights}
use Rattle.cvss_vector.specs.v2.Weights as weights_v2
use Rattle.cvss_vector.specs.v3.VectorWeights as weights_v3
use Rattle.cvss_audit.specs.declared.expected.sub_scores.SubScores.{SubScores}

-- how far the number may be from the one that is rounded: with the scope changed half a millionth, since Impact has a
-- power then
abbrev pub tolerance : Bool → Exact
tolerance false = whole 0
tolerance true = 5 over 10_000_000

-- of the tenths from 0 to 25.5, r is the nearest to x, half up
pub record IsNearestTenth (changed : Bool) (x : Exact) (r : ℕ) : Type 0 where
  pub not_above : (r ≡ 0) ⊎ (half_below (pos r) ⊑ (x ⊕ tolerance changed))
  pub not_below : (r ≡ 255) ⊎ (x ⊏ (half_above (pos r) ⊕ tolerance changed))

-- these are the sub-scores of exploitability x and impact y, which is below 0 or not
pub record AreSubScores (changed below_zero : Bool) (x y : Exact) (reported : SubScores) : Type 0 where
  pub exploitability : IsNearestTenth false x reported.exploitability
  pub impact : IsNearestTenth changed y reported.impact
  pub sign : reported.is_below_zero ≡ below_zero

-- Impact of CVSS v3 is below 0 where the scope is changed and no metric says an impact: about -0.218
abbrev pub is_below_zero : Weights → Bool
is_below_zero w = w.changed && ((w.c == 0) && ((w.i == 0) && (w.a == 0)))

-- these are the sub-scores of CVSS v3
abbrev pub AreSubScoresV3 : Weights → Option SubScores → Type 0
AreSubScoresV3 w reported =
    (own : SubScores) × (reported ≡ Some own)
    × AreSubScores w.changed (is_below_zero w) (scores_v3.exploitability w) (scores_v3.impact w) own

-- the vector has these sub-scores; in CVSS v4.0 there are none
abbrev pub AreSubScoresOf : Cvss → Option SubScores → Type 0
AreSubScoresOf (CvssV20 v) reported =
    (own : SubScores) × (reported ≡ Some own)
    × AreSubScores false false (scores_v2.exploitability (weights_v2.weights_of v)) (scores_v2.impact (weights_v2.weights_of v)) own
AreSubScoresOf (CvssV30 v) reported = AreSubScoresV3 (weights_v3.weights_of v) reported
AreSubScoresOf (CvssV31 v) reported = AreSubScoresV3 (weights_v3.weights_of v) reported
AreSubScoresOf (CvssV40 v) reported = reported ≡ None
