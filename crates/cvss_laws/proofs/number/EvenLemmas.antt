-- Of two numbers in order, their nearest even tenths are in this order. So equal numbers have one.
use Rattle.std.proofs.Common.{◌≡◌, ℤ, pos, ◌+ℤ◌, arith, lit<}
use Rattle.std.proofs.lemmas.Int.{ints, by_lt_z}
use Rattle.cvss_base.specs.Exact.{◌⊑◌}
use Rattle.cvss_base.specs.Rounding.{half_below, half_above}
use Rattle.cvss_base.specs.laws.Rounding.{IsEven, IsNearestEven, RoundsInOrder, RoundsOneWay}
use Rattle.cvss_base.proofs.ExactLemmas.{equal_from_at_most, at_most_trans}
use Rattle.cvss_base.proofs.RoundingLemmas.{unique_if_ordered}

-- two tenths in a row are not both even
next_not_even : (r s : ℤ) → IsEven r → IsEven s → ¬ (r ≡ s +ℤ pos 1)
next_not_even r s r_even s_even next = omega (arith, ints)

-- were r above s, x and y would both lie halfway between the two, and both would be even
nearest_even-ordered : RoundsInOrder IsNearestEven
nearest_even-ordered x y r s some_x some_y order is_r is_s =
    let low = is_r.nearest.from_half_below in
    let high = is_s.nearest.to_half_above in
    let x_high = at_most_trans x y (half_above s) some_y order high in
    let y_low = at_most_trans (half_below r) x y some_x low order in
    let halves = at_most_trans (half_below r) x (half_above s) some_x low x_high in
    by_lt_z s r
    (λ s_below_r.
    let same_half : half_above s ⊑ half_below r = record { at_most = omega (arith, ints, s_below_r) } in
    let x_low = at_most_trans x (half_above s) (half_below r) (lit< tt) x_high same_half in
    let y_high = at_most_trans (half_above s) (half_below r) y (lit< tt) same_half y_low in
    let r_even = is_r.even_above (equal_from_at_most x (half_below r) x_low low) in
    let s_even = is_s.even_below (equal_from_at_most y (half_above s) high y_high) in
    absurd (next_not_even r s r_even s_even (omega (arith, ints, halves, s_below_r))))
    (λ r_at_most_s. r_at_most_s)

pub nearest_even-unique : RoundsOneWay IsNearestEven
nearest_even-unique = unique_if_ordered IsNearestEven nearest_even-ordered
