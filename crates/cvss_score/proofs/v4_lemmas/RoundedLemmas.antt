-- The bound of the mean, and the rounding of equal numbers.
use Rattle.std.proofs.Common.{ℕ, zero, suc, ◌*◌, ◌/◌, ◌<◌, ◌≤◌, max, arith, ℤ}
use Rattle.cvss_base.specs.Exact.{Exact, ◌≈◌}
use Rattle.cvss_base.specs.Rounding.{half_below, half_above, IsRoundedV4}
use Rattle.cvss_base.proofs.ExactLemmas.{equal_at_most, equal_sym, at_most_trans, at_most_below}

-- the mean of parts up to a gap is at most the gap
pub mean_bound : (gap taken counted : ℕ) → counted ≤ 5 → taken ≤ 840 * gap * counted
    → taken * (60 / max counted 1) ≤ 50400 * gap
mean_bound gap taken zero few bound = omega arith
mean_bound gap taken (suc zero) few bound = omega arith
mean_bound gap taken (suc (suc zero)) few bound = omega arith
mean_bound gap taken (suc (suc (suc zero))) few bound = omega arith
mean_bound gap taken (suc (suc (suc (suc zero)))) few bound = omega arith
mean_bound gap taken (suc (suc (suc (suc (suc zero))))) few bound = omega arith
mean_bound gap taken (suc (suc (suc (suc (suc (suc rest)))))) few bound = absurd (omega arith)

-- the v4 rounding of a number is that of each number equal to it
pub v4-equal : (x y : Exact) (r : ℤ) → 0 < x.bottom → 0 < y.bottom → x ≈ y → IsRoundedV4 x r → IsRoundedV4 y r
v4-equal x y r some_x some_y same is_r = record {
  from_half_below = at_most_trans (half_below r) x y some_x is_r.from_half_below (equal_at_most x y same);
  below_half_above = at_most_below y x (half_above r) some_y (equal_at_most y x (equal_sym same)) is_r.below_half_above;
}
