-- Cutting a number to five decimals changes no rounding of v3.1, where the number lies in no gap between the two.
use Rattle.std.specs.List.{list_all}
use Rattle.std.proofs.Common.{◌≡◌, ℕ, ◌+◌, ◌*◌, ◌/◌, ◌^◌, ◌<◌, ◌≤◌, ℤ, pos, ◌-ℤ◌, ◌+ℤ◌, Bool, true, inl, inr, leb, arith, refl, lit<, subst, sym}
use Rattle.std.proofs.lemmas.Int.{ints}
use Rattle.std.proofs.lemmas.Bool.{leb-true}
use Rattle.cvss_base.specs.Exact.{Exact, ratio, ◌over◌, whole, tenths, ◌⊕◌, ◌⊗◌, ◌≈◌, ◌⊑◌}
use Rattle.cvss_base.specs.Rounding.{IsRoundedV31}
use Rattle.cvss_base.proofs.ExactLemmas.{above_itself, at_most_trans, at_most_below, equal_at_most, equal_trans, scaled_at_most}
use Rattle.cvss_base.proofs.TestLemmas.{passes_three, all_below, below_passes}
use Rattle.cvss_score.specs.v3.Scores.{base_number, environmental_number, temporal_number}
use Rattle.cvss_score.specs.v3.Bounds.{exploit_code_maturities, remediation_levels, report_confidences}
use Rattle.cvss_score.specs.declared.v3.rules.Exponent.{Exponent}
use Rattle.cvss_score.specs.declared.v3.rules.Exponent.TheVariants.{Fifteen, Thirteen}
use Rattle.cvss_score.proofs.v3_lemmas.CountLemmas.{AreParts, base_parts, modified_parts}
use Rattle.cvss_score.proofs.v3_lemmas.EqualLemmas.{rounds_equal}
use Rattle.cvss_score.proofs.v3_lemmas.NumberLemmas.{number_of, bottom, own_bottom, equal, settled, own_rounded, none_equal}
use Rattle.cvss_score.proofs.v3_lemmas.RoundLemmas.{between_jumps, rounded_v31}
use Rattle.cvss_laws.specs.v3.FifthDecimals.{IsSameWhenCut}
use Rattle.cvss_vector.specs.v3.VectorWeights.{weights_of}
use Rattle.cvss_vector.specs.declared.v3.vector.Vector.{Vector}
use Rattle.cvss_vector.proofs.v3.TableLemmas.{weights_listed}

-- a number that lies a fifth decimal or more above the tenth before its rounding has the same rounding when it is cut
cut_is : (n : Exact) (s : ℤ) → 0 < n.bottom → whole 0 ⊑ n → tenths (s -ℤ pos 1) ⊕ 1 over 100_000 ⊑ n
    → IsRoundedV31 n s → IsSameWhenCut n
cut_is n s some from_zero above is_s r is_r =
    let up = is_s.not_negative from_zero in
    let x = n ⊗ whole 100_000 in
    let f = is_r.fifth_decimals in
    let g = up.fifth_decimals in
    let some_x : 0 < x.bottom = omega arith in
    let before = tenths (s -ℤ pos 1) ⊕ 1 over 100_000 in
    let scaled : before ⊗ whole 100_000 ⊑ x = scaled_at_most before n 100_000 1 above in
    let low = at_most_below (before ⊗ whole 100_000) x (ratio (f +ℤ pos 1) 1) (lit< tt) scaled is_r.cut.greatest in
    let to_half = at_most_trans (ratio f 1) x (x ⊕ 1 over 2) some_x is_r.cut.not_above (above_itself x 1 2) in
    let high = at_most_below (ratio f 1) (x ⊕ 1 over 2) (ratio (g +ℤ pos 1) 1) (lit< tt) to_half up.nearest.greatest in
    let same : r ≡ s =
    omega (arith, ints, low.below, high.below, up.rounded.not_below.at_most, is_r.rounded.not_below.at_most, is_r.rounded.least.below) in
    subst (λ (z : ℤ). IsRoundedV31 n z) (sym same) is_s

-- a number that lies so above the tenth before its rounding, and what equals it
cut_equal : (n m : Exact) (r : ℤ) → 0 < n.bottom → 0 < m.bottom → n ≈ m → whole 0 ⊑ n → tenths (r -ℤ pos 1) ⊕ 1 over 100_000 ⊑ n
    → IsRoundedV31 n r → IsSameWhenCut m
cut_equal n m r some_n some_m same not_negative above rounded =
    let order = equal_at_most n m same in
    cut_is m r some_m (at_most_trans (whole 0) n m some_n not_negative order)
    (at_most_trans (tenths (r -ℤ pos 1) ⊕ 1 over 100_000) n m some_n above order) (rounds_equal 1 some_n some_m same r rounded)

-- the first number of the equations
module _ (exponent : Exponent) (changed : Bool) (s : ℕ) (S : Exact) (e : ℕ) (E : Exact) (parts : AreParts changed s S e E) where
  same_when_cut : IsSameWhenCut (number_of exponent changed S E)
  same_when_cut = elim parts.sub_score as (λ _. IsSameWhenCut (number_of exponent changed S E)) [
    | inl is_zero ↦
        let zero = 0 over (10 ^ 13) in
        cut_equal zero _ (pos 0) (lit< tt) (bottom exponent changed s S e E parts)
        (equal_trans (lit< tt) (record { equal = refl }) (none_equal exponent changed s S e E parts is_zero))
        (record { at_most = omega (arith, ints) }) (record { at_most = omega (arith, ints) }) (rounded_v31 0)
    | inr sub_score ↦
        let at = (settled exponent changed s S e E parts sub_score).at in
        cut_equal _ _ _ (own_bottom exponent changed s S e E parts) (bottom exponent changed s S e E parts) (equal exponent changed s S e E parts)
        at.not_negative at.from_cut (own_rounded exponent changed s S e E parts sub_score 1)
  ]

pub base_same_when_cut : (v : Vector) → IsSameWhenCut (base_number (weights_of v))
base_same_when_cut v =
    let w = weights_of v in
    same_when_cut Fifteen w.changed _ _ _ _ (base_parts w (weights_listed v))

pub first_same_when_cut : (v : Vector) → IsSameWhenCut (environmental_number 1 (weights_of v))
first_same_when_cut v =
    let w = weights_of v in
    same_when_cut Thirteen w.modified_changed _ _ _ _ (modified_parts w (weights_listed v))

-- the v3.1 rounding of so many 10^-7
abbrev rounded : ℕ → ℕ
rounded k = (k + 999_950) / 1_000_000

-- whether so many 10^-7 are a fifth decimal or more above the tenth before their rounding
abbrev is_apart : ℕ → Bool
is_apart k = leb (rounded k * 1_000_000 + 100) (k + 1_000_000)

apart_same_when_cut : (k : ℕ) → rounded k * 1_000_000 + 100 ≤ k + 1_000_000 → IsSameWhenCut (k over (10 ^ 7))
apart_same_when_cut k apart =
    cut_is (k over (10 ^ 7)) (pos (rounded k)) (lit< tt) (record { at_most = omega (arith, ints) }) (record { at_most = omega (arith, ints, apart) })
    (between_jumps k (10 ^ 7) (rounded k) (lit< tt) (record { at_most = omega (arith, ints) }) (record { below = omega (arith, ints) }))

products_apart : list_all (λ e. list_all (λ rl. list_all (λ rc. all_below (λ t. is_apart (t * e * rl * rc)) 101)
    report_confidences) remediation_levels) exploit_code_maturities ≡ true
unfolding all_below
products_apart = refl

-- tenths from 0 to 10, times E, RL and RC
pub product_same_when_cut : (v : Vector) (t : ℕ) → t ≤ 100 → IsSameWhenCut (temporal_number (pos t) (weights_of v))
product_same_when_cut v t to_ten =
    let w = weights_of v in
    let are = weights_listed v in
    let k = t * w.e * w.rl * w.rc in
    let apart = leb-true (rounded k * 1_000_000 + 100) (k + 1_000_000) (below_passes (λ t. is_apart (t * w.e * w.rl * w.rc)) 101 t
    (passes_three (λ e rl rc. all_below (λ t. is_apart (t * e * rl * rc)) 101) exploit_code_maturities remediation_levels report_confidences
    w.e w.rl w.rc products_apart are.e are.rl are.rc) (omega arith)) in
    apart_same_when_cut k apart
