-- A number that may stand for an exact one: v3.1 specification, Appendix A, on numbers that are computed in floating
-- point. The contracts of calls that `cvss` has no path to cite these.
use Rattle.std.specs.Prelude.{◌≡◌, ℕ, ℤ, Bool, false}
use Rattle.cvss_base.specs.Exact.{Exact, ◌≈◌}
use Rattle.cvss_score.specs.v3.Closeness.{IsCloseTo}
use Rattle.cvss_score.specs.v3.Scores.{IsRounded}

-- x is close to n, and with the scope unchanged x is n
pub record Approximates (changed : Bool) (x n : Exact) : Type 0 where
  pub close : IsCloseTo n x
  pub exact : changed ≡ false → x ≈ n

-- y has each rounding that x has
abbrev pub RoundsAs : ℕ → Exact → Exact → Type 0
RoundsAs minor x y = (r : ℤ) → IsRounded minor x r → IsRounded minor y r

-- what a number x of the code is to a number n of the equations: n has its roundings, and x approximates it
pub record StandsFor (minor : ℕ) (changed : Bool) (x n : Exact) : Type 0 where
  pub rounds : RoundsAs minor x n
  pub near : Approximates changed x n
