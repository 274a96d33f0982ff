-- The equations give the same numbers for equal sub-scores and weights.
use Rattle.std.proofs.Common.{◌≡◌, ◌≢◌, ℕ, zero, suc, ◌*◌, ◌^◌, ◌<◌, ℤ, pos, negsuc, ◌+ℤ◌, ◌-ℤ◌, ◌*ℤ◌, arith, refl, ap, lit<, rules, subst, sym}
use Rattle.std.proofs.Math.IntN.{*ℤ_comm}
use Rattle.std.proofs.lemmas.Int.{ints}
use Rattle.cvss_base.specs.Exact.{Exact, ratio, ◌over◌, whole, thousandths, of_count, ◌⊕◌, ◌⊖◌, ◌⊗◌, ◌≈◌}
use Rattle.cvss_base.specs.Rounding.{IsRoundedV2}
use Rattle.cvss_base.proofs.ExactLemmas.{by_sign, equal_refl, equal_trans, sum_equal, difference_equal, product_equal}
use Rattle.cvss_base.proofs.RoundingLemmas.{v2-equal}
use Rattle.cvss_score.specs.declared.v2.weights.Weights.{Weights}
use Rattle.cvss_score.specs.v2.Scores.{f_thousandths, f, base_number, exploitability, IsBase}

-- equal impacts have one f
pub f_equal : {x x' : Exact} → 0 < x.bottom → 0 < x'.bottom → x ≈ x' → f x ≈ f x'
f_equal {x} {x'} some_x some_x' same =
    let same_f = by_sign (λ m n. f_thousandths m ≡ f_thousandths n) refl (λ m n. refl) (λ m n. refl)
    x.top x'.top x.bottom x'.bottom some_x some_x' same.equal in
    record { equal = ap (λ n. pos n *ℤ pos 1000) same_f }

pub base_number_equal : {x x' y y' : Exact} → 0 < x.bottom → 0 < x'.bottom → x ≈ x' → y ≈ y'
    → base_number x y ≈ base_number x' y'
base_number_equal some_x some_x' same_x same_y =
    let impacts = product_equal (equal_refl (6 over 10)) same_x in
    let exploitabilities = product_equal (equal_refl (4 over 10)) same_y in
    product_equal (difference_equal (sum_equal impacts exploitabilities) (equal_refl (15 over 10)))
    (f_equal some_x some_x' same_x)

-- f of an impact that is not 0
pub f_with_impact : (top : ℤ) → top ≢ pos 0 → f_thousandths top ≡ 1176
f_with_impact (pos zero) some = absurd (some refl)
f_with_impact (pos (suc n)) some = refl
f_with_impact (negsuc n) some = refl

-- the base score of an impact that is a count, and not 0
pub base_rounded : (w : Weights) {impact number r : ℤ} {x : Exact} {e : ℕ} → 0 < x.bottom → of_count impact ≈ x
    → ratio (pos e) (10 ^ 9) ≈ exploitability w → impact ≢ pos 0
    → number ≡ (pos 6 *ℤ impact +ℤ pos 4 *ℤ pos (e * 10 ^ 15) -ℤ pos (15 * 10 ^ 24)) *ℤ pos 1176
    → IsRoundedV2 (ratio number (10 ^ 28)) r → IsBase w x r
base_rounded w {impact} {number} {r} {x} {e} some is_impact is_exploitability impacts is_number rounded =
    let y = ratio (pos e) (10 ^ 9) in
    let sum = 6 over 10 ⊗ of_count impact ⊕ 4 over 10 ⊗ y ⊖ 15 over 10 in
    let is_product : ratio number (10 ^ 28) ≈ sum ⊗ thousandths 1176 = record { equal = omega (arith, ints) } in
    let is_base = subst (λ (n : ℕ). ratio number (10 ^ 28) ≈ sum ⊗ thousandths n) (sym (f_with_impact impact impacts)) is_product in
    v2-equal (lit< tt) (omega arith) (equal_trans (lit< tt) is_base (base_number_equal (lit< tt) some is_impact is_exploitability)) refl rounded

-- without impact it is 0
pub none_rounded : (w : Weights) {x : Exact} → 0 < x.bottom → of_count (pos 0) ≈ x → IsBase w x (pos 0)
none_rounded w {x} some is_impact =
    let y = exploitability w in
    let product = *ℤ_comm (6 over 10 ⊗ of_count (pos 0) ⊕ 4 over 10 ⊗ y ⊖ 15 over 10).top (pos 0) in
    let none : whole 0 ≈ base_number (of_count (pos 0)) y = record { equal = omega (arith, ints, product) } in
    v2-equal (lit< tt) (omega arith) (equal_trans (lit< tt) none (base_number_equal (lit< tt) some is_impact (equal_refl y))) refl (search rules)
