-- The equations give the same numbers for equal parts, and equal numbers have the same roundings.
use Rattle.std.specs.Prelude.{int_lt, if◌then◌else◌}
use Rattle.std.proofs.Common.{◌≡◌, ℕ, zero, suc, ◌*◌, ◌<◌, ℤ, pos, ◌+ℤ◌, ◌-ℤ◌, Bool, true, false, arith, refl, sym, ◌∙◌, subst, lit<}
use Rattle.std.proofs.Math.Nat.{mul-pos}
use Rattle.std.proofs.lemmas.Bool.{lt-ltb}
use Rattle.cvss_base.specs.Exact.{Exact, ratio, ◌over◌, whole, tenths, ◌⊕◌, ◌⊖◌, ◌⊗◌, ◌≈◌}
use Rattle.cvss_base.specs.Rounding.{IsRoundedV30, IsRoundedV31}
use Rattle.cvss_base.proofs.ExactLemmas.{by_sign, equal_refl, equal_sym, equal_at_most, sum_equal, difference_equal, product_equal, at_most_trans, at_most_below, below_at_most}
use Rattle.cvss_base.proofs.RoundingLemmas.{v30-unique, v31-unique}
use Rattle.cvss_score.proofs.v3_lemmas.CapLemmas.{capped, capped_equal}
use Rattle.cvss_score.specs.v3.private.Near.{RoundsAs}
use Rattle.cvss_score.specs.v3.Scores.{power, changed_impact, changed_modified_impact, impact_by, impact, modified_impact, iss, miss, exploitability, modified_exploitability, total_of, first_number, base_number, environmental_number, modified_exponent, IsRounded}
use Rattle.cvss_score.specs.declared.v3.rules.Exponent.{Exponent}
use Rattle.cvss_score.specs.declared.v3.rules.Exponent.TheVariants.{Fifteen, Thirteen}
use Rattle.cvss_score.specs.declared.v3.weights.Weights.{Weights}

power_equal : {x y : Exact} (n : ℕ) → x ≈ y → power x n ≈ power y n
unfolding power
power_equal zero same = equal_refl (whole 1)
power_equal (suc n) same = product_equal same (power_equal n same)

power_bottom : (x : Exact) (n : ℕ) → 0 < x.bottom → 0 < (power x n).bottom
unfolding power
power_bottom x zero some = lit< tt
power_bottom x (suc n) some = mul-pos some (power_bottom x n some)

-- an impact with the scope changed, of a sub-score and of what is less 0.02 in its power
abbrev powered : ℕ → Exact → Exact → Exact
powered n x y = 752 over 100 ⊗ (x ⊖ 29 over 1000) ⊖ 325 over 100 ⊗ power (y ⊖ 2 over 100) n

powered_equal : {x x' y y' : Exact} (n : ℕ) → x ≈ x' → y ≈ y' → powered n x y ≈ powered n x' y'
powered_equal n same_x same_y =
    difference_equal
    (product_equal (equal_refl (752 over 100)) (difference_equal same_x (equal_refl (29 over 1000))))
    (product_equal (equal_refl (325 over 100)) (power_equal n (difference_equal same_y (equal_refl (2 over 100)))))

powered_bottom : (x y : Exact) (n : ℕ) → 0 < x.bottom → 0 < y.bottom → 0 < (powered n x y).bottom
powered_bottom x y n some_x some_y =
    mul-pos {m = 100 * (x.bottom * 1000)} (omega arith) (mul-pos {m = 100} (lit< tt) (power_bottom _ n (omega arith)))

-- equal sub-scores have equal impacts
pub impact_equal : (exponent : Exponent) (changed : Bool) {x y : Exact} → x ≈ y
    → impact_by exponent changed x ≈ impact_by exponent changed y
unfolding changed_impact changed_modified_impact
impact_equal exponent false same = product_equal (equal_refl (642 over 100)) same
impact_equal Fifteen true same = powered_equal 15 same same
impact_equal Thirteen true same = powered_equal 13 same (product_equal same (equal_refl (9731 over 10_000)))

pub impact_bottom : (exponent : Exponent) (changed : Bool) (x : Exact) → 0 < x.bottom → 0 < (impact_by exponent changed x).bottom
unfolding changed_impact changed_modified_impact
impact_bottom exponent false x some = omega arith
impact_bottom Fifteen true x some = powered_bottom x x 15 some some
impact_bottom Thirteen true x some = powered_bottom x (x ⊗ 9731 over 10_000) 13 some (omega arith)

suc_above : (m : ℕ) → int_lt (pos 0) (pos (suc m)) ≡ true
suc_above m = lt-ltb 0 (suc m) (omega arith)

pub total_bottom : (changed : Bool) (x y : Exact) → 0 < x.bottom → 0 < y.bottom → 0 < (total_of changed x y).bottom
total_bottom false x y some_x some_y = mul-pos some_x some_y
total_bottom true x y some_x some_y = mul-pos {m = 100} (lit< tt) (mul-pos some_x some_y)

total_equal : (changed : Bool) {x x' y y' : Exact} → x ≈ x' → y ≈ y' → total_of changed x y ≈ total_of changed x' y'
total_equal false same_x same_y = sum_equal same_x same_y
total_equal true same_x same_y = product_equal (equal_refl (108 over 100)) (sum_equal same_x same_y)

-- equal parts have equal first numbers
pub first_equal : (changed : Bool) {x x' y y' : Exact} → 0 < x.bottom → 0 < x'.bottom → 0 < y.bottom → 0 < y'.bottom
    → x ≈ x' → y ≈ y' → first_number changed x y ≈ first_number changed x' y'
first_equal changed {x} {x'} {y} {y'} some_x some_x' some_y some_y' same_x same_y =
    let total : Exact → Exact → Exact = λ p q. capped (total_of changed p q) in
    let parted : (b : Bool) → (if b then total x y else whole 0) ≈ (if b then total x' y' else whole 0) =
    λ b. elim b as (λ v. (if v then total x y else whole 0) ≈ (if v then total x' y' else whole 0)) [
      | true ↦ capped_equal (total_bottom changed x y some_x some_y) (total_bottom changed x' y' some_x' some_y') (total_equal changed same_x same_y)
      | false ↦ equal_refl (whole 0)
    ] in
    let same_sign = by_sign (λ m n. int_lt (pos 0) m ≡ int_lt (pos 0) n) refl (λ m n. suc_above m ∙ sym (suc_above n)) (λ m n. refl)
    x.top x'.top x.bottom x'.bottom some_x some_x' same_x.equal in
    subst (λ b. first_number changed x y ≈ (if b then total x' y' else whole 0)) same_sign (parted (int_lt (pos 0) x.top))

pub first_bottom : (changed : Bool) (x y : Exact) → 0 < x.bottom → 0 < y.bottom → 0 < (first_number changed x y).bottom
first_bottom changed x y some_x some_y =
    let parted : (b : Bool) → 0 < (if b then capped (total_of changed x y) else whole 0).bottom =
    λ b. elim b as (λ v. 0 < (if v then capped (total_of changed x y) else whole 0).bottom) [
      | true ↦ mul-pos {n = 1} (total_bottom changed x y some_x some_y) (lit< tt)
      | false ↦ lit< tt
    ] in
    parted (int_lt (pos 0) x.top)

pub base_bottom : (w : Weights) → 0 < (base_number w).bottom
base_bottom w = first_bottom w.changed (impact w) (exploitability w) (impact_bottom Fifteen w.changed (iss w) (lit< tt)) (lit< tt)

pub environmental_bottom : (minor : ℕ) (w : Weights) → 0 < (environmental_number minor w).bottom
environmental_bottom minor w =
    first_bottom w.modified_changed (modified_impact minor w) (modified_exploitability w)
    (impact_bottom (modified_exponent minor) w.modified_changed (miss w) (lit< tt)) (lit< tt)

least_tenth-equal : (x y : Exact) (r : ℤ) → 0 < x.bottom → 0 < y.bottom → x ≈ y → IsRoundedV30 x r → IsRoundedV30 y r
least_tenth-equal x y r some_x some_y same rounded = record {
  not_below = at_most_trans y x (tenths r) some_x (equal_at_most y x (equal_sym same)) rounded.not_below;
  least = below_at_most (tenths (r -ℤ pos 1)) x y some_y rounded.least (equal_at_most x y same);
}

v31-equal : (x y : Exact) (r : ℤ) → 0 < x.bottom → 0 < y.bottom → x ≈ y → IsRoundedV31 x r → IsRoundedV31 y r
v31-equal x y r some_x some_y same rounded =
    let forth = equal_at_most x y same in
    let back = equal_at_most y x (equal_sym same) in
    let x' = x ⊗ whole 100_000 ⊕ 1 over 2 in
    let y' = y ⊗ whole 100_000 ⊕ 1 over 2 in
    let same' : x' ≈ y' = sum_equal (product_equal same (equal_refl (whole 100_000))) (equal_refl (1 over 2)) in
    record {
      negative = λ y_negative. rounded.negative (at_most_below x y (whole 0) some_x forth y_negative);
      not_negative = λ y_not_negative.
          let up = rounded.not_negative (at_most_trans (whole 0) y x some_y y_not_negative back) in
          let n = up.fifth_decimals in
          record {
            fifth_decimals = n;
            nearest = record {
              not_above = at_most_trans (ratio n 1) x' y' (omega arith) up.nearest.not_above (equal_at_most x' y' same');
              greatest = at_most_below y' x' (ratio (n +ℤ pos 1) 1) (omega arith) (equal_at_most y' x' (equal_sym same')) up.nearest.greatest;
            };
            rounded = up.rounded;
          };
    }

-- a number has one rounding
pub rounded_once : (minor : ℕ) (x : Exact) (r s : ℤ) → 0 < x.bottom → IsRounded minor x r → IsRounded minor x s → r ≡ s
rounded_once zero x r s some is_r is_s = v30-unique x x r s some some (equal_refl x) is_r is_s
rounded_once (suc minor) x r s some is_r is_s = v31-unique x x r s some some (equal_refl x) is_r is_s

-- equal numbers have the same roundings
pub rounds_equal : (minor : ℕ) {x y : Exact} → 0 < x.bottom → 0 < y.bottom → x ≈ y → RoundsAs minor x y
rounds_equal zero {x} {y} some_x some_y same r rounded = least_tenth-equal x y r some_x some_y same rounded
rounds_equal (suc minor) {x} {y} some_x some_y same r rounded = v31-equal x y r some_x some_y same rounded
