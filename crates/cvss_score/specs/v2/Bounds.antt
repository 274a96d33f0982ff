-- Bounds of the numbers of the equations (guide, section 3.2), within which the arithmetic neither wraps nor overflows.
use Rattle.std.specs.Prelude.{ℕ, ◌*◌, ◌^◌, ◌≤◌, ◌≤ℤ◌, ℤ, pos, negsuc, neg_ℤ}
use Rattle.cvss_score.specs.declared.v2.weights.Weights.{Weights}

-- so many tenths, from -1.8 to 10, where the numbers lie before they are raised to 0
pub record IsOnScale (r : ℤ) : Type 0 where
  pub low : negsuc 17 ≤ℤ r
  pub high : r ≤ℤ pos 100

-- so many parts of a tenth, from -1.8 to 10
pub record IsOnScaleOf (parts : ℕ) (n : ℤ) : Type 0 where
  pub low : neg_ℤ (pos (18 * parts)) ≤ℤ n
  pub high : n ≤ℤ pos (100 * parts)

-- a count from 0 to 10.001, as each Impact is
pub record IsImpactCount (count : ℤ) : Type 0 where
  pub from_zero : pos 0 ≤ℤ count
  pub to_highest : count ≤ℤ pos (10_001 * 10 ^ 21)

-- no weight is above the greatest of its metric
pub record AreBounded (w : Weights) : Type 0 where
  pub av : w.av ≤ 1000
  pub ac : w.ac ≤ 710
  pub au : w.au ≤ 704
  pub c : w.c ≤ 660
  pub i : w.i ≤ 660
  pub a : w.a ≤ 660
  pub e : w.e ≤ 1000
  pub rl : w.rl ≤ 1000
  pub rc : w.rc ≤ 1000
  pub cdp : w.cdp ≤ 500
  pub td : w.td ≤ 1000
  pub cr : w.cr ≤ 1510
  pub ir : w.ir ≤ 1510
  pub ar : w.ar ≤ 1510
