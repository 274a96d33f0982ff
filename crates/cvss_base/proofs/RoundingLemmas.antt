-- Of two numbers in order, each rounding gives tenths in this order. So equal numbers have one rounding.
use Rattle.std.proofs.Common.{◌≡◌, ◌<◌, ℕ, suc, ◌+◌, ◌*◌, ◌/◌, ℤ, pos, negsuc, neg_ℤ, ◌*ℤ◌, ◌+ℤ◌, ◌-ℤ◌, ◌≤ℤ◌, arith, rules, subst, sym, ◌∙◌, lit<}
use Rattle.std.proofs.lemmas.Int.{ints}
use Rattle.cvss_base.specs.Exact.{Exact, ratio, ◌over◌, whole, tenths, ◌⊕◌, ◌⊗◌, ◌≈◌, ◌⊑◌, ◌⊏◌}
use Rattle.cvss_base.specs.Rounding.{half_below, half_above, IsNearestAway, IsRoundedV2, IsRoundedV30, IsRoundedV30, IsFloor, IsRoundedUp, IsRoundedV31, IsRoundedV4}
use Rattle.cvss_base.specs.laws.Rounding.{RoundsInOrder, RoundsOneWay}
use Rattle.cvss_base.proofs.ExactLemmas.{equal_at_most, by_below, at_most_below, below_at_most, sum_at_most, scaled_at_most, times_difference, times_sum, times_times, neg_times}

-- what keeps an order takes equal numbers to one tenth
pub unique_if_ordered : (Rounding : Exact → ℤ → Type 0) → RoundsInOrder Rounding → RoundsOneWay Rounding
unique_if_ordered Rounding ordered x y r s some_x some_y same is_r is_s =
    let forth : r ≤ℤ s = ordered x y r s some_x some_y (equal_at_most x y same) is_r is_s in
    let back : s ≤ℤ r = ordered y x s r some_y some_x (record { at_most = omega (arith, ints) }) is_s is_r in
    omega (arith, ints)

-- a tenth whose lower half is below the upper half of another is at most the other
halves_ordered : (r s : ℤ) → half_below r ⊏ half_above s → r ≤ℤ s
halves_ordered r s h = omega (arith, ints)

module _ (x y : Exact) (r s : ℤ) (some_x : 0 < x.bottom) (some_y : 0 < y.bottom) (order : x ⊑ y) where
  -- halves go up
  half_up-ordered : half_below r ⊑ x → y ⊏ half_above s → r ≤ℤ s
  half_up-ordered low high =
      halves_ordered r s
      (at_most_below (half_below r) x (half_above s) (lit< tt) low (at_most_below x y (half_above s) some_x order high))

  -- halves go down
  half_down-ordered : half_below r ⊏ x → y ⊑ half_above s → r ≤ℤ s
  half_down-ordered low high =
      halves_ordered r s
      (below_at_most (half_below r) y (half_above s) (lit< tt) (below_at_most (half_below r) x y some_y low order) high)

pub v4-ordered : RoundsInOrder IsRoundedV4
v4-ordered x y r s some_x some_y order is_r is_s =
    half_up-ordered x y r s some_x some_y order is_r.from_half_below is_s.below_half_above

nearest_away-ordered : RoundsInOrder IsNearestAway
nearest_away-ordered x y r s some_x some_y order is_r is_s =
    by_below y (whole 0)
    (λ y_negative. let x_negative = at_most_below x y (whole 0) some_x order y_negative in
    half_down-ordered x y r s some_x some_y order (is_r.away_downward x_negative) is_s.nearest.to_half_above)
    (λ y_not_negative.
    half_up-ordered x y r s some_x some_y order is_r.nearest.from_half_below (is_s.away_upward y_not_negative))

pub v2-ordered : RoundsInOrder IsRoundedV2
v2-ordered x y r s some_x some_y order is_r is_s =
    let lift = 1 over 1_000_000 in
    let same_lift : lift ⊑ lift = record { at_most = search rules } in
    let lifted = sum_at_most x y lift lift order same_lift in
    nearest_away-ordered (x ⊕ lift) (y ⊕ lift) r s (omega arith) (omega arith) lifted is_r.lifted is_s.lifted

pub least_tenth-ordered : RoundsInOrder IsRoundedV30
least_tenth-ordered x y r s some_x some_y order is_r is_s =
    let before = tenths (r -ℤ pos 1) in
    let before_y = below_at_most before x y some_y is_r.least order in
    let before_s = below_at_most before y (tenths s) (lit< tt) before_y is_s.not_below in
    omega (arith, ints, before_s)

floor-ordered : RoundsInOrder IsFloor
floor-ordered x y n m some_x some_y order is_n is_m =
    let next = ratio (m +ℤ pos 1) 1 in
    let x_next = at_most_below x y next some_x order is_m.greatest in
    let n_next = at_most_below (ratio n 1) x next (lit< tt) is_n.not_above x_next in
    omega (arith, ints, n_next)

rounded_up-ordered : RoundsInOrder IsRoundedUp
rounded_up-ordered x y r s some_x some_y order is_r is_s =
    let half = 1 over 2 in
    let same_half : half ⊑ half = record { at_most = search rules } in
    let x' = x ⊗ whole 100_000 in
    let y' = y ⊗ whole 100_000 in
    let n = is_r.fifth_decimals in
    let m = is_s.fifth_decimals in
    let lifted = sum_at_most x' y' half half (scaled_at_most x y 100_000 1 order) same_half in
    let floors = floor-ordered (x' ⊕ half) (y' ⊕ half) n m (omega arith) (omega arith) lifted is_r.nearest is_s.nearest in
    let fifths : ratio n 100_000 ⊑ ratio m 100_000 = record { at_most = omega (arith, ints, floors) } in
    least_tenth-ordered (ratio n 100_000) (ratio m 100_000) r s (lit< tt) (lit< tt) fifths is_r.rounded is_s.rounded

-- 0 rounds up to 0
zero_rounded_up : IsRoundedUp (whole 0) (pos 0)
zero_rounded_up = record {
  fifth_decimals = pos 0;
  nearest = record { not_above = record { at_most = search rules }; greatest = record { below = search rules } };
  rounded = record { not_below = record { at_most = search rules }; least = record { below = search rules } };
}

pub v31-ordered : RoundsInOrder IsRoundedV31
v31-ordered x y r s some_x some_y order is_r is_s =
    by_below y (whole 0)
    (λ y_negative. let x_negative = at_most_below x y (whole 0) some_x order y_negative in
    omega (arith, ints, is_r.negative x_negative, is_s.negative y_negative))
    (λ y_not_negative.
    let s_up = is_s.not_negative y_not_negative in
    by_below x (whole 0)
    (λ x_negative.
    let s_not_negative = rounded_up-ordered (whole 0) y (pos 0) s (lit< tt) some_y y_not_negative zero_rounded_up s_up in
    omega (arith, ints, is_r.negative x_negative, s_not_negative))
    (λ x_not_negative. rounded_up-ordered x y r s some_x some_y order (is_r.not_negative x_not_negative) s_up))

pub v2-unique : RoundsOneWay IsRoundedV2
v2-unique = unique_if_ordered IsRoundedV2 v2-ordered

pub v30-unique : RoundsOneWay IsRoundedV30
v30-unique = unique_if_ordered IsRoundedV30 least_tenth-ordered

pub v31-unique : RoundsOneWay IsRoundedV31
v31-unique = unique_if_ordered IsRoundedV31 v31-ordered

pub v4-unique : RoundsOneWay IsRoundedV4
v4-unique = unique_if_ordered IsRoundedV4 v4-ordered

-- the nearest tenth of top/q, of two equally near the one farther from zero
unfoldable pub nearest_of : ℤ → ℕ → ℤ
nearest_of (pos t) q = pos ((20 * t + q) / (2 * q))
nearest_of (negsuc t) q = neg_ℤ (pos ((20 * suc t + q) / (2 * q)))

nearest_of_is : (top : ℤ) (q : ℕ) → 0 < q → IsNearestAway (ratio top q) (nearest_of top q)
unfolding nearest_of
nearest_of_is (pos t) q some =
    let n = (20 * t + q) / (2 * q) in
    let below = times_difference (pos n *ℤ pos 100) (pos 50) q in
    search (arith, ints, below)
nearest_of_is (negsuc t) q some =
    let n = (20 * suc t + q) / (2 * q) in
    let r = neg_ℤ (pos n) *ℤ pos 100 in
    let product = times_times (neg_ℤ (pos n)) (pos 100) q in
    let opposite = neg_times (pos n) (100 * q) in
    let below = times_difference r (pos 50) q in
    let above = times_sum r (pos 50) q in
    search (arith, ints, below, above, product, opposite)

-- the nearest tenth of x, of two equally near the one farther from zero
abbrev pub nearest_tenths : Exact → ℤ
nearest_tenths x = nearest_of x.top x.bottom

pub nearest_is : (x : Exact) → 0 < x.bottom → IsNearestAway x (nearest_tenths x)
nearest_is x some = nearest_of_is x.top x.bottom some

pub nearest_away-unique : RoundsOneWay IsNearestAway
nearest_away-unique = unique_if_ordered IsNearestAway nearest_away-ordered

-- the v2 rounding of x
abbrev pub v2_tenths : Exact → ℤ
v2_tenths x = nearest_tenths (x ⊕ 1 over 1_000_000)

pub v2_is : (x : Exact) → 0 < x.bottom → IsRoundedV2 x (v2_tenths x)
v2_is x some = record { lifted = nearest_is (x ⊕ 1 over 1_000_000) (omega arith) }

-- the v2 rounding of a number is that of each number equal to it
pub v2-equal : {x y : Exact} {r s : ℤ} → 0 < x.bottom → 0 < y.bottom → x ≈ y → r ≡ s → IsRoundedV2 x r → IsRoundedV2 y s
v2-equal {x} {y} {r} {s} some_x some_y same same_tenths is_r =
    let is_y = v2_is y some_y in
    subst (λ (t : ℤ). IsRoundedV2 y t) (sym (v2-unique x y r (v2_tenths y) some_x some_y same is_r is_y) ∙ same_tenths) is_y
