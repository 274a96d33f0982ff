-- The tenth that is printed of a score is nearest to it, and of two equally near the even one.
use Rattle.std.proofs.Common.{◌≡◌, ℕ, suc, ◌*◌, ◌+◌, ◌^◌, ◌%◌, ◌≤◌, ℤ, pos, negsuc, neg_ℤ, int_lt, unsigned_abs, false, arith}
use Rattle.std.proofs.lemmas.Bool.Decides.{nat_tests}
use Rattle.std.proofs.lemmas.Int.{ints}
use Rattle.cvss_base.specs.Exact.{of_count}
use Rattle.cvss_base.specs.laws.Rounding.{IsNearestEven, printed_tenths}
use Rattle.cvss_base.specs.Tenths.{even_tenths}

-- the tenths are at most half a tenth away, and are even where they are so far away
record IsNear (count tenths : ℕ) : Type 0 where
  below : 2 * tenths * 10 ^ 23 ≤ 2 * count + 10 ^ 23
  above : 2 * count ≤ 2 * tenths * 10 ^ 23 + 10 ^ 23
  even_above : 2 * count + 10 ^ 23 ≡ 2 * tenths * 10 ^ 23 → tenths % 2 ≡ 0
  even_below : 2 * count ≡ 2 * tenths * 10 ^ 23 + 10 ^ 23 → tenths % 2 ≡ 0

even_tenths-near : (count : ℕ) → IsNear count (even_tenths count)
even_tenths-near count = grind (arith, nat_tests)

upward : (count tenths : ℕ) → IsNear count tenths → IsNearestEven (of_count (pos count)) (pos tenths)
upward count tenths near = search (arith, ints, near.even_above, near.even_below)

magnitude-neg : (n : ℕ) → unsigned_abs (neg_ℤ (pos n)) ≡ n
magnitude-neg n = omega (arith, ints)

downward : (count tenths : ℕ) → IsNear count tenths → IsNearestEven (of_count (neg_ℤ (pos count))) (neg_ℤ (pos tenths))
downward count tenths near = search (arith, ints, magnitude-neg, near.even_above, near.even_below)

not_negative : (count : ℕ) → int_lt (pos count) (pos 0) ≡ false
not_negative count = grind (arith, nat_tests)

pub printed-nearest : (value : ℤ) → IsNearestEven (of_count value) (printed_tenths value)
printed-nearest (pos count) = rw (not_negative count) (upward count (even_tenths count) (even_tenths-near count))
printed-nearest (negsuc count) = downward (suc count) (even_tenths (suc count)) (even_tenths-near (suc count))
