-- The whole tenths that a number has as its roundings.
use Rattle.std.proofs.Common.{◌≡◌, ℕ, zero, suc, ◌+◌, ◌*◌, ◌/◌, ◌^◌, ◌<◌, ◌≤◌, ℤ, pos, ◌+ℤ◌, ◌-ℤ◌, ◌*ℤ◌, ◌<ℤ◌, ◌≤ℤ◌, arith, refl, subst, lit<, true, negsuc}
use Rattle.std.proofs.lemmas.Int.{ints}
use Rattle.std.proofs.lemmas.Bool.{leb-true}
use Rattle.std.proofs.Math.Nat.{lt_of_mul-lt-mul_right}
use lib.Signed.{le_z}
use Rattle.cvss_base.specs.Exact.{Exact, ◌over◌, tenths, of_count, ◌⊕◌, ◌⊑◌, ◌⊏◌}
use Rattle.cvss_base.specs.Rounding.{IsRoundedV31}

-- the number next to r tenths at which the v3.1 rounding jumps
abbrev pub jump : ℤ → Exact
jump r = tenths r ⊕ 5 over 1_000_000

-- the nearest fifth decimal of t/q
abbrev fifth_of : ℕ → ℕ → ℕ
fifth_of t q = (t * 100_000 * 2 + q) / (q * 2)

-- a fifth decimal is at most r tenths if the number is below the next jump
fifth_not_above : (t q r : ℕ) → 0 < q → t * 1_000_000 < (r * 100_000 + 5) * q → fifth_of t q ≤ r * 10_000
fifth_not_above t q r some high =
    let scaled : fifth_of t q * (q * 2) < (r * 10_000 + 1) * (q * 2) = omega arith in
    let below : fifth_of t q < r * 10_000 + 1 = lt_of_mul-lt-mul_right (q * 2) scaled in
    omega arith

-- and above r tenths if the number is not below their jump
fifth_above : (t q r : ℕ) → 0 < q → (r * 100_000 + 5) * q ≤ t * 1_000_000 → r * 10_000 < fifth_of t q
fifth_above t q r some low =
    let scaled : (r * 10_000 + 1) * (q * 2) < (fifth_of t q + 1) * (q * 2) = omega arith in
    let above : r * 10_000 + 1 < fifth_of t q + 1 = lt_of_mul-lt-mul_right (q * 2) scaled in
    omega arith

fifth_least : (t q r : ℕ) → 0 < q → jump (pos r -ℤ pos 1) ⊑ t over q
    → ((pos r -ℤ pos 1) *ℤ pos 100_000) <ℤ pos (fifth_of t q * 10)
fifth_least t q zero some low = omega (arith, ints)
fifth_least t q (suc r) some low =
    let previous : pos (suc r) -ℤ pos 1 ≡ pos r = omega (arith, ints) in
    let from_jump = subst (λ (z : ℤ). jump z ⊑ t over q) previous low in
    omega (arith, ints, fifth_above t q r some (omega (arith, ints, from_jump.at_most)))

-- between two jumps in a row the v3.1 rounding is one tenth
pub between_jumps : (t q r : ℕ) → 0 < q → jump (pos r -ℤ pos 1) ⊑ t over q → t over q ⊏ jump (pos r)
    → IsRoundedV31 (t over q) (pos r)
between_jumps t q r some low high = record {
  negative = λ negative. absurd (omega (arith, ints, negative.below));
  not_negative = λ not_negative.
      record {
        fifth_decimals = pos (fifth_of t q);
        nearest = record {
          not_above = record { at_most = omega (arith, ints) };
          greatest = record { below = omega (arith, ints) };
        };
        rounded = record {
          not_below = record {
            at_most = omega (arith, ints, fifth_not_above t q r some (omega (arith, ints, high.below)));
          };
          least = record { below = fifth_least t q r some low };
        };
      };
}

-- the v3.1 rounding in 10^-13
pub rounded_v31 : (number : ℕ) → IsRoundedV31 (number over (10 ^ 13)) (pos ((number + 999_950_000_000) / 10 ^ 12))
rounded_v31 number =
    between_jumps number (10 ^ 13) ((number + 999_950_000_000) / 10 ^ 12) (omega arith)
    (record { at_most = omega (arith, ints) }) (record { below = omega (arith, ints) })

-- the v3.1 rounding of a count above 0
pub count_rounded : (count result : ℤ) → pos 0 <ℤ count → (result *ℤ pos (10 ^ 23)) ≤ℤ (count +ℤ pos (99_995 * 10 ^ 18))
    → (count +ℤ pos (99_995 * 10 ^ 18)) <ℤ (result *ℤ pos (10 ^ 23) +ℤ pos (10 ^ 23)) → IsRoundedV31 (of_count count) result
count_rounded (pos n) (pos r) above low high =
    between_jumps n (10 ^ 24) r (lit< tt) (record { at_most = omega (arith, ints) }) (record { below = omega (arith, ints) })
count_rounded (pos n) (negsuc r) above low high = absurd (omega (arith, ints))
count_rounded (negsuc n) result above low high = absurd (omega (arith, ints))

-- the v3.1 rounding of a count that is not above 0
pub low_count_rounded : (count : ℤ) → le_z count (pos 0) ≡ true → IsRoundedV31 (of_count count) (pos 0)
low_count_rounded (pos zero) low =
    between_jumps 0 (10 ^ 24) 0 (lit< tt) (record { at_most = omega (arith, ints) }) (record { below = omega (arith, ints) })
low_count_rounded (pos (suc n)) low = absurd (omega (arith, leb-true (suc n) 0 low))
low_count_rounded (negsuc n) low = record {
  negative = λ negative. refl;
  not_negative = λ not_negative. absurd (omega (arith, ints, not_negative.at_most));
}
