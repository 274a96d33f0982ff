-- What the laws of severity say, of any version.
use Rattle.std.specs.Prelude.{ℕ, List, ℤ, ◌≤ℤ◌}
use Rattle.cvss_base.specs.Version.{Version, Denotes}
use Rattle.cvss_score.specs.AtMost.{IsAtMost}
use Rattle.cvss_vector.specs.Answers.{score_of_tenths}

-- of two scores, counts of 10^-24, the first is at most the second
abbrev pub AreInOrder : (ℤ → Type 0) → (ℤ → Type 0) → Type 0
AreInOrder IsFirst IsSecond = (first second : ℤ) → IsFirst first → IsSecond second → first ≤ℤ second

-- the texts denote two vectors, no weight of the first is above that of the second, and these are their scores in
-- tenths
pub record AreScored {V K : Type 0} (version : Version V K) (weights : V → List ℕ) (IsScore : V → ℤ → Type 0)
    (less more : List ℕ) (score_of_less score_of_more : ℕ) : Type 0 where
  pub first : V
  pub second : V
  pub denotes_first : Denotes version less first
  pub denotes_second : Denotes version more second
  pub no_less_severe : IsAtMost (weights first) (weights second)
  pub first_scored : IsScore first (score_of_tenths score_of_less)
  pub second_scored : IsScore second (score_of_tenths score_of_more)
