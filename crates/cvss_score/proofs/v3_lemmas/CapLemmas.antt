-- What the smaller of two exact numbers is, and what a cap at 10 does to their order.
use Rattle.std.proofs.Common.{◌≡◌, ℕ, ◌+◌, ◌*◌, ◌<◌, ◌≤◌, ℤ, pos, ◌*ℤ◌, Bool, true, false, cond, arith, refl}
use Rattle.std.proofs.lemmas.Int.{ints}
use Rattle.std.proofs.Math.Nat.{mul-le-mul_right}
use lib.Signed.{lt_z}
use borrow.Author.Differences.{up, down, lt-true, lt-false}
use Rattle.cvss_base.specs.Exact.{Exact, ratio, ◌over◌, whole, ◌≈◌, ◌⊑◌, smaller}
use Rattle.cvss_base.proofs.ExactLemmas.{equal_at_most, equal_from_at_most, equal_sym, at_most_trans, times_times}

-- at most 10
abbrev pub capped : Exact → Exact
capped x = smaller x (whole 10)

-- the smaller of a/p and m/k is one of the two
pub by_smaller : (P : Exact → Type 0) (a : ℤ) (p m k : ℕ)
    → (m * p + k * down a < k * up a → P (ratio (pos m *ℤ pos p) (p * k)))
    → (k * up a ≤ m * p + k * down a → P (ratio (a *ℤ pos k) (p * k))) → P (smaller (ratio a p) (m over k))
by_smaller P a p m k above below =
    let parted : (b : Bool) → lt_z (pos m *ℤ pos p) (a *ℤ pos k) ≡ b
    → P (ratio (cond b (pos m *ℤ pos p) (a *ℤ pos k)) (p * k)) =
    λ b. elim b as (λ v. lt_z (pos m *ℤ pos p) (a *ℤ pos k) ≡ v
    → P (ratio (cond v (pos m *ℤ pos p) (a *ℤ pos k)) (p * k))) [
      | true ↦ λ is_above. let order = lt-true (pos m *ℤ pos p) (a *ℤ pos k) is_above in above (omega (arith, ints))
      | false ↦ λ is_not. let order = lt-false (pos m *ℤ pos p) (a *ℤ pos k) is_not in below (omega (arith, ints))
    ] in
    parted _ refl

pub capped_to_ten : (x : Exact) → capped x ⊑ whole 10
capped_to_ten x =
    by_smaller (λ z. z ⊑ whole 10) x.top x.bottom 10 1
    (λ above. record { at_most = omega (arith, ints) }) (λ below. record { at_most = omega (arith, ints) })

pub capped_down : (x : Exact) → capped x ⊑ x
capped_down x =
    by_smaller (λ z. z ⊑ x) x.top x.bottom 10 1
    (λ above. let scaled = mul-le-mul_right x.bottom above in record { at_most = omega (arith, ints, scaled) })
    (λ below. record { at_most = omega (arith, ints, times_times x.top (pos 1) x.bottom) })

-- the cap is not below what neither the number nor 10 is below
pub not_below_cap : (x y : Exact) → x ⊑ y → x ⊑ whole 10 → x ⊑ capped y
not_below_cap x y order to_ten =
    let ten : up x.top ≤ 10 * x.bottom + down x.top = omega (arith, ints, to_ten.at_most) in
    by_smaller (λ z. x ⊑ z) y.top y.bottom 10 1
    (λ above. let scaled = mul-le-mul_right y.bottom ten in record { at_most = omega (arith, ints, scaled) })
    (λ below. record { at_most = omega (arith, ints, order.at_most, times_times y.top (pos 1) x.bottom) })

pub capped_at_most : (x y : Exact) → 0 < x.bottom → x ⊑ y → capped x ⊑ capped y
capped_at_most x y some order =
    not_below_cap (capped x) y (at_most_trans (capped x) x y some (capped_down x) order) (capped_to_ten x)

pub capped_equal : {x y : Exact} → 0 < x.bottom → 0 < y.bottom → x ≈ y → capped x ≈ capped y
capped_equal {x} {y} some_x some_y same =
    equal_from_at_most (capped x) (capped y)
    (capped_at_most x y some_x (equal_at_most x y same)) (capped_at_most y x some_y (equal_at_most y x (equal_sym same)))
