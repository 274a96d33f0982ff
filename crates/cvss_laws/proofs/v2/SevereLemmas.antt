-- Greater weights give no smaller base and temporal scores.
use Rattle.std.specs.Int.{int_max}
use Rattle.std.proofs.Common.{ℕ, zero, suc, ◌-◌, ◌*◌, ◌^◌, ◌<◌, ◌≤◌, ℤ, pos, negsuc, ◌*ℤ◌, ◌≤ℤ◌, arith, refl, rules, lit<, mul-le-mul}
use Rattle.std.proofs.lemmas.Int.{ints, clamps}
use Rattle.std.proofs.Math.IntN.{*ℤ_comm}
use Rattle.cvss_base.specs.Exact.{Exact, ratio, ◌over◌, whole, tenths, thousandths, ◌⊑◌, ◌⊕◌, ◌⊖◌, ◌⊗◌, ◌≈◌}
use Rattle.cvss_base.specs.Rounding.{IsRoundedV2}
use Rattle.cvss_base.proofs.ExactLemmas.{equal_refl, equal_sym, equal_trans}
use Rattle.cvss_base.proofs.RoundingLemmas.{v2-ordered, v2-equal}
use Rattle.cvss_score.specs.AtMost.{IsAtMost}
use Rattle.cvss_score.specs.declared.v2.weights.Weights.{Weights}
use Rattle.cvss_score.specs.v2.Bounds.{AreBounded}
use Rattle.cvss_score.specs.v2.Scores.{impact, exploitability, base_number, temporal_number, IsBase, IsTemporal, IsBaseScore, IsTemporalScore}
use Rattle.cvss_score.proofs.v2_lemmas.CountLemmas.{own_impact_is, temporal_is}
use Rattle.cvss_score.proofs.v2_lemmas.ScoreLemmas.{base_number_equal}
use Rattle.cvss_laws.specs.any.Severity.{AreInOrder}
use Rattle.cvss_laws.specs.v2.Severity.{base_weights, temporal_weights}

-- numbers of tenths that are in order once they are raised to 0
pub record IsNoMore (r s : ℤ) : Type 0 where
  pub order : int_max (pos 0) r ≤ℤ int_max (pos 0) s

no_more : (r s : ℤ) → r ≤ℤ s → IsNoMore r s
no_more r s order = record { order = omega (arith, ints, clamps) }

pub zero_rounded : IsRoundedV2 (whole 0) (pos 0)
zero_rounded = search rules

-- what is not above 0 is published as 0
none_if : (x : Exact) (r s : ℤ) → 0 < x.bottom → x ⊑ whole 0 → IsRoundedV2 x r → IsNoMore r s
none_if x r s some low rounded =
    let order = v2-ordered x (whole 0) r (pos 0) some (lit< tt) low rounded zero_rounded in
    record { order = omega (arith, ints, clamps, order) }

-- base numbers of an impact in 10^-20 and of an exploitability in 10^-9
abbrev pub number : ℕ → ℕ → Exact
number n e = base_number (n over (10 ^ 20)) (e over (10 ^ 9))

number_ordered : (n n' e e' : ℕ) → suc n ≤ n' → e ≤ e' → number (suc n) e ⊑ number n' e'
number_ordered n zero e e' more_n more_e = absurd (omega arith)
number_ordered n (suc n') e e' more_n more_e = record { at_most = omega (arith, ints) }

pub rounded_ordered : (n n' e e' : ℕ) (r s : ℤ) → n ≤ n' → e ≤ e' → IsRoundedV2 (number n e) r
    → IsRoundedV2 (number n' e') s
    → IsNoMore r s
rounded_ordered zero n' e e' r s more_n more_e is_r is_s =
    let product = *ℤ_comm (6 over 10 ⊗ 0 over (10 ^ 20) ⊕ 4 over 10 ⊗ e over (10 ^ 9) ⊖ 15 over 10).top (pos 0) in
    none_if (number 0 e) r s (lit< tt) (record { at_most = omega (arith, ints, product) }) is_r
rounded_ordered (suc n) n' e e' r s more_n more_e is_r is_s =
    no_more r s (v2-ordered (number (suc n) e) (number n' e') r s (lit< tt) (lit< tt)
    (number_ordered n n' e e' more_n more_e) is_r is_s)

-- the exploitability in 10^-9
abbrev pub access : Weights → ℕ
access w = 20 * w.av * w.ac * w.au

pub access_ordered : (w w' : Weights) → w.av ≤ w'.av → w.ac ≤ w'.ac → w.au ≤ w'.au → access w ≤ access w'
access_ordered w w' av ac au =
    let first : 20 * w.av ≤ 20 * w'.av = omega (arith, av) in mul-le-mul (mul-le-mul first ac) au

-- the rests of three weights, each of the same unit, are in order where these are
pub rests_ordered : (unit c i a c' i' a' : ℕ) → c ≤ c' → i ≤ i' → a ≤ a'
    → (unit - c') * (unit - i') * (unit - a') ≤ (unit - c) * (unit - i) * (unit - a)
rests_ordered unit c i a c' i' a' more_c more_i more_a =
    let rest : (x y : ℕ) → x ≤ y → unit - y ≤ unit - x = λ x y more. omega arith in
    mul-le-mul (mul-le-mul (rest c c' more_c) (rest i i' more_i)) (rest a a' more_a)

-- Impact in 10^-20
abbrev units : ℕ → ℕ → ℕ → ℕ
units c i a = (10 ^ 9 - (1000 - c) * (1000 - i) * (1000 - a)) * (1041 * 10 ^ 9)

units_ordered : (c i a c' i' a' : ℕ) → c ≤ c' → i ≤ i' → a ≤ a' → units c i a ≤ units c' i' a'
units_ordered c i a c' i' a' more_c more_i more_a =
    omega (arith, rests_ordered 1000 c i a c' i' a' more_c more_i more_a)

-- the base rounding of weights, in these units
base_rounded : (w : Weights) (r : ℤ) → w.c ≤ 1000 → w.i ≤ 1000 → w.a ≤ 1000 → IsBase w (impact w) r
    → IsRoundedV2 (number (units w.c w.i w.a) (access w)) r
base_rounded w r small_c small_i small_a is_r =
    let own = (10 ^ 9 - (1000 - w.c) * (1000 - w.i) * (1000 - w.a)) * 1041 in
    let finer : units w.c w.i w.a over (10 ^ 20) ≈ own over (10 ^ 11) = record { equal = omega (arith, ints) } in
    let is_impact = equal_trans (lit< tt) finer (own_impact_is w.c w.i w.a small_c small_i small_a) in
    v2-equal (lit< tt) (lit< tt) (equal_sym (base_number_equal (lit< tt) (lit< tt) is_impact
    (equal_refl (exploitability w)))) refl is_r

base_ordered : (w w' : Weights) (r s : ℤ) → AreBounded w' → IsAtMost (base_weights w) (base_weights w')
    → IsBase w (impact w) r → IsBase w' (impact w') s → IsNoMore r s
base_ordered w w' r s are (av, (ac, (au, (c, (i, (a, _)))))) is_r is_s =
    rounded_ordered (units w.c w.i w.a) (units w'.c w'.i w'.a) (access w) (access w') r s
    (units_ordered w.c w.i w.a w'.c w'.i w'.a c i a) (access_ordered w w' av ac au)
    (base_rounded w r (omega (arith, c, are.c)) (omega (arith, i, are.i)) (omega (arith, a, are.a)) is_r)
    (base_rounded w' s (omega (arith, are.c)) (omega (arith, are.i)) (omega (arith, are.a)) is_s)

-- tenths times weights, in 10^-10
abbrev pub product : ℤ → ℕ → Exact
product r k = ratio (r *ℤ pos k) (10 ^ 10)

pub product_ordered : (r s t u : ℤ) (k k' : ℕ) → IsNoMore r s → k ≤ k' → IsRoundedV2 (product r k) t
    → IsRoundedV2 (product s k') u
    → IsNoMore t u
product_ordered (negsuc m) s t u k k' more more_k is_t is_u =
    none_if (product (negsuc m) k) t u (lit< tt) (record { at_most = omega (arith, ints) }) is_t
product_ordered (pos zero) s t u k k' more more_k is_t is_u =
    none_if (product (pos zero) k) t u (lit< tt) (record { at_most = omega (arith, ints) }) is_t
product_ordered (pos (suc m)) (negsuc n) t u k k' more more_k is_t is_u =
    absurd (omega (arith, ints, clamps, more.order))
product_ordered (pos (suc m)) (pos n) t u k k' more more_k is_t is_u =
    let tenths : suc m ≤ n = omega (arith, ints, clamps, more.order) in
    let products : suc m * k ≤ n * k' = mul-le-mul tenths more_k in
    no_more t u (v2-ordered (product (pos (suc m)) k) (product (pos n) k') t u (lit< tt) (lit< tt)
    (record { at_most = omega (arith, ints, products) }) is_t is_u)

pub temporal_rounded : (w : Weights) (base r : ℤ)
    → IsRoundedV2 (temporal_number (tenths base) (thousandths w.e) (thousandths w.rl) (thousandths w.rc)) r
    → IsRoundedV2 (product base (w.e * w.rl * w.rc)) r
temporal_rounded w base r is_r =
    v2-equal (lit< tt) (lit< tt) (equal_sym (temporal_is base w.e w.rl w.rc refl refl refl)) refl is_r

-- with impacts whose base numbers are in order once they are raised to 0
pub temporal_ordered : (w w' : Weights) (x x' : Exact) (r s : ℤ) → IsAtMost (temporal_weights w) (temporal_weights w')
    → ((m n : ℤ) → IsBase w x m → IsBase w' x' n → IsNoMore m n) → IsTemporal w x r → IsTemporal w' x' s → IsNoMore r s
temporal_ordered w w' x x' r s (e, (rl, (rc, _))) bases is_r is_s =
    product_ordered is_r.base is_s.base r s (w.e * w.rl * w.rc) (w'.e * w'.rl * w'.rc)
    (bases is_r.base is_s.base is_r.is_base is_s.is_base) (mul-le-mul (mul-le-mul e rl) rc)
    (temporal_rounded w is_r.base r is_r.is_rounded) (temporal_rounded w' is_s.base s is_s.is_rounded)

pub base_scores_ordered : (w w' : Weights) → AreBounded w' → IsAtMost (base_weights w) (base_weights w')
    → AreInOrder (IsBaseScore w) (IsBaseScore w')
base_scores_ordered w w' are more r s is_r is_s =
    let no_more = base_ordered w w' is_r.number is_s.number are more is_r.is_number is_s.is_number in
    omega (arith, ints, no_more.order, is_r.is_count, is_s.is_count)

pub temporal_scores_ordered : (w w' : Weights) → AreBounded w' → IsAtMost (temporal_weights w) (temporal_weights w')
    → AreInOrder (IsTemporalScore w) (IsTemporalScore w')
temporal_scores_ordered w w' are (e, (rl, (rc, base))) r s is_r is_s =
    let bases : (m n : ℤ) → IsBase w (impact w) m → IsBase w' (impact w') n → IsNoMore m n = λ m n. base_ordered w w'
    m n are base in
    let no_more = temporal_ordered w w' (impact w) (impact w') is_r.number is_s.number (e, (rl, (rc, base))) bases
    is_r.is_number is_s.is_number in
    omega (arith, ints, no_more.order, is_r.is_count, is_s.is_count)
