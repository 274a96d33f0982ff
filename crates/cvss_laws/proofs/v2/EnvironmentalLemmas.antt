-- Greater weights give no smaller environmental scores, where the base number of the greater ones is not negative.
use Rattle.std.proofs.Common.{◌≡◌, ℕ, ◌+◌, ◌-◌, ◌*◌, ◌^◌, ◌≤◌, min, ℤ, pos, negsuc, ◌+ℤ◌, ◌*ℤ◌, ◌≤ℤ◌, arith, refl, rules, lit<, subst, ap, mul-le-mul}
use Rattle.std.proofs.lemmas.Int.{ints, clamps}
use Rattle.std.proofs.Math.Nat.{le_refl}
use Rattle.cvss_base.specs.Exact.{Exact, ratio, ◌over◌, whole, tenths, thousandths, ◌⊑◌}
use Rattle.cvss_base.specs.Rounding.{IsRoundedV2}
use Rattle.cvss_base.proofs.ExactLemmas.{equal_sym, rests_are, rests_bound}
use Rattle.cvss_base.proofs.RoundingLemmas.{v2-ordered, v2-equal}
use Rattle.cvss_score.specs.AtMost.{IsAtMost}
use Rattle.cvss_score.specs.declared.v2.weights.Weights.{Weights}
use Rattle.cvss_score.specs.v2.Bounds.{AreBounded}
use Rattle.cvss_score.specs.v2.Scores.{impact_of, adjusted_impact, exploitability, base_number, environmental_number, IsBase, IsTemporal, IsEnvironmental, IsEnvironmentalScore}
use Rattle.cvss_score.proofs.v2_lemmas.CountLemmas.{environmental_is}
use Rattle.cvss_laws.specs.any.Severity.{AreInOrder}
use Rattle.cvss_laws.specs.v2.Severity.{environmental_weights}
use Rattle.cvss_laws.proofs.v2.SevereLemmas.{IsNoMore, number, rounded_ordered, rests_ordered, access, access_ordered, product, product_ordered, temporal_rounded, temporal_ordered, zero_rounded}

-- AdjustedImpact in 10^-20, of weights in millionths
abbrev units : ℕ → ℕ → ℕ → ℕ
units c i a = min (10 * 10 ^ 20) ((10 ^ 18 - (1_000_000 - c) * (1_000_000 - i) * (1_000_000 - a)) * 1041)

units_ordered : (c i a c' i' a' : ℕ) → c ≤ c' → i ≤ i' → a ≤ a' → units c i a ≤ units c' i' a'
units_ordered c i a c' i' a' more_c more_i more_a =
    omega (arith, rests_ordered 1_000_000 c i a c' i' a' more_c more_i more_a)

impact_top : (c i a : ℕ) → c ≤ 1_000_000 → i ≤ 1_000_000 → a ≤ 1_000_000
    → (impact_of (c over 1_000_000) (i over 1_000_000) (a over 1_000_000)).top
    ≡ pos ((10 ^ 18 - (1_000_000 - c) * (1_000_000 - i) * (1_000_000 - a)) * 1041)
impact_top c i a small_c small_i small_a =
    let rests = rests_are 1_000_000 c i a small_c small_i small_a in
    omega (arith, ints, rests, rests_bound 1_000_000 c i a)

-- no impact times its requirement is above 1
weighted_small : (impact requirement : ℕ) → impact ≤ 660 → requirement ≤ 1510 → impact * requirement ≤ 1_000_000
weighted_small impact requirement small_impact small_requirement =
    let product : impact * requirement ≤ 660 * 1510 = mul-le-mul small_impact small_requirement in
    omega (arith, product)

abbrev units_of : Weights → ℕ
units_of w = units (w.c * w.cr) (w.i * w.ir) (w.a * w.ar)

adjusted_top : (w : Weights) → AreBounded w → (adjusted_impact w).top ≡ pos (units_of w)
adjusted_top w are =
    let top = impact_top (w.c * w.cr) (w.i * w.ir) (w.a * w.ar)
    (weighted_small w.c w.cr are.c are.cr) (weighted_small w.i w.ir are.i are.ir)
    (weighted_small w.a w.ar are.a are.ar) in
    omega (arith, ints, clamps, top)

base_rounded : (w : Weights) (r : ℤ) → AreBounded w → IsBase w (adjusted_impact w) r
    → IsRoundedV2 (number (units_of w) (access w)) r
base_rounded w r are is_r =
    subst (λ (top : ℤ). IsRoundedV2 (base_number (ratio top (10 ^ 20)) (access w over (10 ^ 9))) r)
    (adjusted_top w are) is_r

base_from_zero : (w : Weights) (r : ℤ) → whole 0 ⊑ base_number (adjusted_impact w) (exploitability w)
    → IsBase w (adjusted_impact w) r → pos 0 ≤ℤ r
base_from_zero w r from_zero is_r =
    v2-ordered (whole 0) (base_number (adjusted_impact w) (exploitability w)) (pos 0) r (lit< tt) (lit< tt) from_zero
    zero_rounded is_r

-- no impact and exploitability are above those of 10
greatest_rounded : IsRoundedV2 (number (10 * 10 ^ 20) (20 * 1000 * 710 * 704)) (pos 100)
greatest_rounded = search rules

base_to_ten : (w : Weights) (r : ℤ) → AreBounded w → IsBase w (adjusted_impact w) r → IsNoMore r (pos 100)
base_to_ten w r are is_r =
    let first : 20 * w.av ≤ 20 * 1000 = omega (arith, are.av) in
    rounded_ordered (units_of w) (10 * 10 ^ 20) (access w) (20 * 1000 * 710 * 704) r (pos 100) (omega arith)
    (mul-le-mul (mul-le-mul first are.ac) are.au) (base_rounded w r are is_r) greatest_rounded

-- tenths that are not negative, times weights, are rounded to such
product_from_zero : (base r : ℤ) (k : ℕ) → pos 0 ≤ℤ base → IsRoundedV2 (product base k) r → pos 0 ≤ℤ r
product_from_zero (negsuc m) r k low is_r = absurd (omega (arith, ints, low))
product_from_zero (pos n) r k low is_r =
    v2-ordered (whole 0) (product (pos n) k) (pos 0) r (lit< tt) (lit< tt) (record { at_most = omega (arith, ints) })
    zero_rounded is_r

ten_rounded : IsRoundedV2 (product (pos 100) (10 ^ 9)) (pos 100)
ten_rounded = search rules

-- what the environmental score is the rounding of, in 10^-7, of so many tenths
abbrev top : ℤ → ℕ → ℕ → ℤ
top n cdp td = n *ℤ pos ((1000 - cdp) * td * 1) +ℤ pos (100 * cdp * td)

own_tops_ordered : (n n' c c' d d' : ℕ) → n ≤ n' → n' ≤ 100 → c ≤ c' → c' ≤ 1000 → d ≤ d'
    → n * ((1000 - c) * d * 1) + 100 * c * d ≤ n' * ((1000 - c') * d' * 1) + 100 * c' * d'
own_tops_ordered n n' c c' d d' more to_ten more_c small more_d =
    let k = c' - c in
    let one : n * (1000 - c) ≤ n' * (1000 - c) = mul-le-mul more (le_refl (1000 - c)) in
    let parted : 1000 - c ≡ (1000 - c') + k = omega (arith, more_c, small) in
    let added : n' * k ≤ 100 * k = mul-le-mul to_ten (le_refl k) in
    let whole : c' ≡ c + k = omega (arith, more_c) in
    let inner : n * (1000 - c) + 100 * c ≤ n' * (1000 - c') + 100 * c' =
    omega (arith, one, ap (λ m. n' * m) parted, added, whole) in
    let outer : (n * (1000 - c) + 100 * c) * d ≤ (n' * (1000 - c') + 100 * c') * d' = mul-le-mul inner more_d in
    omega (arith, outer)

-- from 0 to 10, and of no more
tops_ordered : (m n : ℤ) (c c' d d' : ℕ) → m ≤ℤ n → pos 0 ≤ℤ n → n ≤ℤ pos 100 → c ≤ c' → c' ≤ 1000 → d ≤ d'
    → top m c d ≤ℤ top n c' d'
tops_ordered m (negsuc n) c c' d d' more from_zero to_ten more_c small more_d = absurd (omega (arith, ints, from_zero))
tops_ordered (pos m) (pos n) c c' d d' more from_zero to_ten more_c small more_d =
    omega (
      arith,
      ints,
      own_tops_ordered m n c c' d d' (omega (arith, ints, more)) (omega (arith, ints, to_ten))
          more_c small more_d,
    )
tops_ordered (negsuc m) (pos n) c c' d d' more from_zero to_ten more_c small more_d =
    omega (arith, ints, own_tops_ordered 0 n c c' d d' (omega arith) (omega (arith, ints, to_ten)) more_c small more_d)

environmental_rounded : (n : ℤ) (w : Weights) (r : ℤ) → w.cdp ≤ 1000
    → IsRoundedV2 (environmental_number (tenths n) (thousandths w.cdp) (thousandths w.td)) r
    → IsRoundedV2 (ratio (top n w.cdp w.td) (10 ^ 7)) r
environmental_rounded n w r small is_r =
    v2-equal (lit< tt) (lit< tt) (equal_sym (environmental_is n w.cdp w.td small refl refl refl refl)) refl is_r

module _ (w w' : Weights) (are : AreBounded w) (are' : AreBounded w')
    (from_zero : whole 0 ⊑ base_number (adjusted_impact w') (exploitability w')) where
  -- the greater AdjustedTemporal lies from 0 to 10
  adjusted_from_zero : (r : ℤ) → IsTemporal w' (adjusted_impact w') r → pos 0 ≤ℤ r
  adjusted_from_zero r is_r =
      product_from_zero is_r.base r (w'.e * w'.rl * w'.rc) (base_from_zero w' is_r.base from_zero is_r.is_base)
      (temporal_rounded w' is_r.base r is_r.is_rounded)

  adjusted_to_ten : (r : ℤ) → IsTemporal w' (adjusted_impact w') r → IsNoMore r (pos 100)
  adjusted_to_ten r is_r =
      product_ordered is_r.base (pos 100) r (pos 100) (w'.e * w'.rl * w'.rc) (10 ^ 9)
      (base_to_ten w' is_r.base are' is_r.is_base)
      (mul-le-mul (mul-le-mul are'.e are'.rl) are'.rc) (temporal_rounded w' is_r.base r is_r.is_rounded) ten_rounded

  numbers_ordered : IsAtMost (environmental_weights w) (environmental_weights w')
      → (r s : ℤ) → IsEnvironmental w r → IsEnvironmental w' s → r ≤ℤ s
  numbers_ordered (cdp, (td, (cr, (ir, (ar, (e, (rl, (rc, (av, (ac, (au, (c, (i, (a, none)))))))))))))) r s is_r is_s =
      let m = is_r.adjusted_temporal in
      let n = is_s.adjusted_temporal in
      let bases : (k l : ℤ) → IsBase w (adjusted_impact w) k → IsBase w' (adjusted_impact w') l → IsNoMore k l =
      λ k l is_k is_l. rounded_ordered (units_of w) (units_of w') (access w) (access w') k l
      (units_ordered _ _ _ _ _ _ (mul-le-mul c cr) (mul-le-mul i ir) (mul-le-mul a ar)) (access_ordered w w' av ac au)
      (base_rounded w k are is_k) (base_rounded w' l are' is_l) in
      let low = adjusted_from_zero n is_s.is_temporal in
      let high = adjusted_to_ten n is_s.is_temporal in
      let order = temporal_ordered w w' (adjusted_impact w) (adjusted_impact w') m n
      (e, (rl, (rc, (av, (ac, (au, (c, (i, (a, none))))))))) bases is_r.is_temporal is_s.is_temporal in
      let small : w'.cdp ≤ 1000 = omega (arith, are'.cdp) in
      v2-ordered (ratio (top m w.cdp w.td) (10 ^ 7)) (ratio (top n w'.cdp w'.td) (10 ^ 7)) r s (lit< tt) (lit< tt)
      (record {
        at_most = omega (
          arith,
          ints,
          tops_ordered m n w.cdp w'.cdp w.td w'.td
              (omega (arith, ints, clamps, order.order, low))
              low (omega (arith, ints, clamps, high.order)) cdp small td,
        );
      })
      (environmental_rounded m w r (omega (arith, cdp, small)) is_r.is_rounded)
      (environmental_rounded n w' s small is_s.is_rounded)

  pub environmental_scores_ordered : IsAtMost (environmental_weights w) (environmental_weights w')
      → AreInOrder (IsEnvironmentalScore w) (IsEnvironmentalScore w')
  environmental_scores_ordered more r s is_r is_s =
      let order = numbers_ordered more is_r.number is_s.number is_r.is_number is_s.is_number in
      omega (arith, ints, clamps, order, is_r.is_count, is_s.is_count)
