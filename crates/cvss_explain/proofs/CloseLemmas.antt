-- The nearest ten millionths of a count that is close to a number are near to the number.
use Rattle.std.proofs.Common.{ℕ, ◌+◌, ◌*◌, ◌^◌, ◌<◌, ◌≤◌, ℤ, pos, Bool, arith, lit<}
use Rattle.std.proofs.Math.Nat.{mul-le-mul_right}
use Rattle.std.proofs.lemmas.Int.{ints}
use borrow.Author.Differences.{up, down}
use Rattle.cvss_base.proofs.ExactLemmas.{at_most_below, equal_refl}
use Rattle.cvss_base.specs.Exact.{Exact, of_count, ◌over◌, ◌⊕◌}
use Rattle.cvss_score.specs.v3.Closeness.{IsCloseTo}
use Rattle.cvss_score.specs.v3.Scores.{impact, iss, miss, modified_exponent, modified_impact}
use Rattle.cvss_score.specs.v3.private.Near.{Approximates}
use Rattle.cvss_score.specs.declared.v3.rules.Exponent.TheVariants.{Fifteen}
use Rattle.cvss_score.specs.declared.v3.weights.Weights.{Weights}
use Rattle.cvss_score.proofs.v3_lemmas.EqualLemmas.{impact_bottom as exponent_bottom}
use Rattle.cvss_score.proofs.v3_lemmas.NearLemmas.{still_approximates}
use Rattle.cvss_explain.proofs.NearLemmas.{near_equal}
use Rattle.cvss_explain.specs.Near.{AreNearest, IsNearBy, IsWithinMillionth, ten_millionths}

near_close : (n : Exact) (c k : ℤ) → 0 < n.bottom → IsCloseTo n (of_count c) → AreNearest c k → IsWithinMillionth n k
near_close n c k some close nearest =
    let parts : up k * 10 ^ 17 + down c ≤ up c + down k * 10 ^ 17 + 5 * 10 ^ 16 = omega (arith, ints, nearest.not_above) in
    record {
      not_above = at_most_below n (of_count c ⊕ 5 over 10_000_000) (ten_millionths k ⊕ 1 over 1_000_000) some close.not_below
          (record { below = omega (arith, ints, nearest.not_below) });
      not_below = record { below = omega (arith, ints, some, close.not_above.at_most, mul-le-mul_right n.bottom parts) };
    }

-- a count that is the number where the scope is not changed, and else close to it
pub near_by : (changed : Bool) (n : Exact) (c k : ℤ) → 0 < n.bottom → Approximates changed (of_count c) n → AreNearest c k → IsNearBy changed n k
near_by changed n c k some close nearest = record {
  within = near_close n c k some close.close nearest;
  near = λ unchanged. near_equal n c k some (close.exact unchanged) nearest;
}

-- the same of so many 10^-13
pub near_units : (changed : Bool) (n : Exact) (units : ℕ) (k : ℤ) → 0 < n.bottom → Approximates changed (units over (10 ^ 13)) n
    → AreNearest (pos (units * 10 ^ 11)) k → IsNearBy changed n k
near_units changed n units k some close nearest =
    near_by changed n (pos (units * 10 ^ 11)) k some
    (still_approximates changed {x = units over (10 ^ 13)} (lit< tt) some (record { equal = omega (arith, ints) }) (equal_refl _) close) nearest

pub impact_bottom : (w : Weights) → 0 < (impact w).bottom
impact_bottom w = exponent_bottom Fifteen w.changed (iss w) (lit< tt)

pub modified_impact_bottom : (minor : ℕ) (w : Weights) → 0 < (modified_impact minor w).bottom
modified_impact_bottom minor w = exponent_bottom (modified_exponent minor) w.modified_changed (miss w) (lit< tt)
