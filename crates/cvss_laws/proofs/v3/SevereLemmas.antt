-- Greater weights give no smaller base and temporal scores.
use Rattle.std.specs.Prelude.{int_lt}
use Rattle.std.specs.List.{list_all, Contains}
use Rattle.std.proofs.Common.{◌≡◌, ℕ, ◌-◌, ◌*◌, ◌≤◌, ℤ, pos, negsuc, ◌≤ℤ◌, List, [], ◌∷◌, Bool, true, false, ltb, ◌||◌, inl, inr, arith, refl, lit<, mul-le-mul}
use Rattle.std.proofs.lemmas.Int.{ints}
use Rattle.std.proofs.lemmas.Bool.{ltb-true, or_cases, false≢true}
use Rattle.cvss_base.specs.Exact.{ratio, ◌over◌, whole, ◌⊑◌}
use Rattle.cvss_base.proofs.TestLemmas.{is_at_most, at_most_if, passes, passes_two, passes_three, is_listed, listed_if}
use Rattle.cvss_score.specs.AtMost.{IsAtMost}
use Rattle.cvss_score.specs.v3.Bounds.{AreOfTables, impacts}
use Rattle.cvss_score.specs.v3.Scores.{power, changed_impact, impact_by, base_number, temporal_number, iss, exploitability, IsRounded, IsBase, IsBaseScore, IsTemporalScore}
use Rattle.cvss_score.specs.declared.v3.rules.Exponent.{Exponent}
use Rattle.cvss_score.specs.declared.v3.rules.Exponent.TheVariants.{Fifteen}
use Rattle.cvss_score.specs.declared.v3.weights.Weights.{Weights}
use Rattle.cvss_score.specs.v3.private.Units.{millionths_of}
use Rattle.cvss_score.proofs.v3_lemmas.CountLemmas.{base_parts}
use Rattle.cvss_score.proofs.v3_lemmas.EqualLemmas.{base_bottom}
use Rattle.cvss_laws.specs.any.Severity.{AreInOrder}
use Rattle.cvss_laws.specs.v3.Severity.{scope_level, base_weights, temporal_weights}
use Rattle.cvss_laws.proofs.v3.NumberLemmas.{ordered, rounded_from_zero, not_negative, IsImpactOrdered, number_ordered}

-- the values of ISS, in millionths
abbrev pub isses : List ℕ
isses = 0 ∷ 220000 ∷ 391600 ∷ 525448 ∷ 560000 ∷ 656800 ∷ 732304 ∷ 806400 ∷ 848992 ∷ 914816 ∷ []

pub iss_is_listed : (c i a : ℕ) → Contains impacts c → Contains impacts i → Contains impacts a
    → Contains isses (millionths_of c i a)
iss_is_listed c i a is_c is_i is_a =
    listed_if isses (millionths_of c i a)
    (passes_three (λ c i a. is_listed isses (millionths_of c i a)) impacts impacts impacts c i a refl is_c is_i is_a)

-- whether an impact is above 0, of a sub-score above 0
unfoldable pub is_some : Exponent → Bool → ℕ → Bool
is_some exponent b s = ltb s 110_000 || int_lt (pos 0) (impact_by exponent b (s over 1_000_000)).top

-- whether the impact of the second is no less, of sub-scores in order
unfoldable pub are_ordered : Exponent → Bool → Bool → ℕ → ℕ → Bool
are_ordered exponent b b' s s' =
    ltb s 110_000 || (ltb s' s || is_at_most (impact_by exponent b (s over 1_000_000))
    (impact_by exponent b' (s' over 1_000_000)))

all_some : (b : Bool) → list_all (is_some Fifteen b) isses ≡ true
unfolding is_some power changed_impact
all_some false = refl
all_some true = refl

all_ordered : (b b' : Bool) → (b ≡ true → b' ≡ true)
    → list_all (λ s. list_all (are_ordered Fifteen b b' s) isses) isses ≡ true
unfolding are_ordered power changed_impact
all_ordered false false changes = refl
all_ordered false true changes = refl
all_ordered true true changes = refl
all_ordered true false changes = absurd (false≢true (changes refl))

pub some_if : (exponent : Exponent) (b : Bool) (s : ℕ) → 110_000 ≤ s → is_some exponent b s ≡ true
    → int_lt (pos 0) (impact_by exponent b (s over 1_000_000)).top ≡ true
unfolding is_some
some_if exponent b s low holds = elim (or_cases (ltb s 110_000) _ holds) [
  | inl small ↦ absurd (omega (arith, ltb-true s 110_000 small))
  | inr some ↦ some
]

pub ordered_if : (exponent : Exponent) (b b' : Bool) (s s' : ℕ) → 110_000 ≤ s → s ≤ s'
    → are_ordered exponent b b' s s' ≡ true
    → impact_by exponent b (s over 1_000_000) ⊑ impact_by exponent b' (s' over 1_000_000)
unfolding are_ordered
ordered_if exponent b b' s s' low more holds = elim (or_cases (ltb s 110_000) _ holds) [
  | inl small ↦ absurd (omega (arith, ltb-true s 110_000 small))
  | inr other ↦ elim (or_cases (ltb s' s) _ other) [
    | inl less ↦ absurd (omega (arith, ltb-true s' s less))
    | inr is ↦ at_most_if (impact_by exponent b (s over 1_000_000)) (impact_by exponent b' (s' over 1_000_000)) is
  ]
]

-- a number whose top is above 0 is not negative
from_zero_if : (top : ℤ) (q : ℕ) → int_lt (pos 0) top ≡ true → whole 0 ⊑ ratio top q
from_zero_if (pos n) q some = record { at_most = omega (arith, ints) }
from_zero_if (negsuc n) q some = absurd (false≢true some)

pub impacts_ordered : (exponent : Exponent) (b b' : Bool) (s s' : ℕ) → (b ≡ true → b' ≡ true) → 110_000 ≤ s → s ≤ s'
    → is_some exponent b s ≡ true → is_some exponent b' s' ≡ true → are_ordered exponent b b' s s' ≡ true
    → IsImpactOrdered exponent b b' s s'
impacts_ordered exponent b b' s s' changes low more some some' order =
    let low' : 110_000 ≤ s' = omega (arith, low, more) in
    let is_some' = some_if exponent b' s' low' some' in
    record {
      scope = changes;
      some = some_if exponent b s low some;
      some' = is_some';
      from_zero = from_zero_if _ _ is_some';
      order = ordered_if exponent b b' s s' low more order;
    }

pub units_ordered : (c i a c' i' a' : ℕ) → c ≤ c' → i ≤ i' → a ≤ a' → millionths_of c i a ≤ millionths_of c' i' a'
units_ordered c i a c' i' a' more_c more_i more_a =
    let rest : (x y : ℕ) → x ≤ y → 100 - y ≤ 100 - x = λ x y more. omega arith in
    let rests : (100 - c') * (100 - i') * (100 - a') ≤ (100 - c) * (100 - i) * (100 - a) =
    mul-le-mul (mul-le-mul (rest c c' more_c) (rest i i' more_i)) (rest a a' more_a) in
    omega (arith, rests)

-- a scope that is changed in the less severe is so in the more severe
pub scope_kept : (b b' : Bool) → scope_level b ≤ scope_level b' → b ≡ true → b' ≡ true
scope_kept b true more is = refl
scope_kept true false more is = absurd (omega (arith, more))
scope_kept false false more is = is

-- of weights
module _ (w w' : Weights) (are : AreOfTables w) (are' : AreOfTables w') where
  base_number_ordered : IsAtMost (base_weights w) (base_weights w') → base_number w ⊑ base_number w'
  base_number_ordered (av, (ac, (pr, (ui, (scope, (c, (i, (a, _)))))))) =
      let s = millionths_of w.c w.i w.a in
      let s' = millionths_of w'.c w'.i w'.a in
      let listed = iss_is_listed w.c w.i w.a are.c are.i are.a in
      let listed' = iss_is_listed w'.c w'.i w'.a are'.c are'.i are'.a in
      let more_s = units_ordered w.c w.i w.a w'.c w'.i w'.a c i a in
      let changes = scope_kept w.changed w'.changed scope in
      let access : 822 * w.av ≤ 822 * w'.av = omega (arith, av) in
      number_ordered Fifteen w.changed w'.changed s (iss w) _ (exploitability w) (base_parts w are)
      s' (iss w') _ (exploitability w') (base_parts w' are') more_s
      (mul-le-mul (mul-le-mul (mul-le-mul access ac) pr) ui)
      (λ sub_score sub_score'. impacts_ordered Fifteen w.changed w'.changed s s' changes sub_score.low more_s
      (passes (is_some Fifteen w.changed) isses s (all_some w.changed) listed)
      (passes (is_some Fifteen w'.changed) isses s' (all_some w'.changed) listed')
      (passes_two (are_ordered Fifteen w.changed w'.changed) isses isses s s'
      (all_ordered w.changed w'.changed changes) listed listed'))

  base_ordered : (minor : ℕ) → IsAtMost (base_weights w) (base_weights w') → (r s : ℤ) → IsBase minor w r
      → IsBase minor w' s → r ≤ℤ s
  base_ordered minor more r s is_r is_s =
      ordered minor (base_number w) (base_number w') r s (base_bottom w) (base_bottom w') (base_number_ordered more)
      is_r is_s

  base_from_zero : (minor : ℕ) (r : ℤ) → IsBase minor w r → pos 0 ≤ℤ r
  base_from_zero minor r is_r =
      rounded_from_zero minor (base_number w) r (base_bottom w)
      (not_negative Fifteen w.changed _ _ _ _ (base_parts w are)) is_r

  -- tenths that are not negative, times greater weights
  pub product_ordered : (minor : ℕ) → w.e ≤ w'.e → w.rl ≤ w'.rl → w.rc ≤ w'.rc → (m n r s : ℤ) → pos 0 ≤ℤ m → m ≤ℤ n
      → IsRounded minor (temporal_number m w) r → IsRounded minor (temporal_number n w') s → r ≤ℤ s
  product_ordered minor e rl rc (negsuc m) n r s from_zero order is_r is_s = absurd (omega (arith, ints, from_zero))
  product_ordered minor e rl rc (pos m) (negsuc n) r s from_zero order is_r is_s = absurd (omega (arith, ints, order))
  product_ordered minor e rl rc (pos m) (pos n) r s from_zero order is_r is_s =
      let tenths : m ≤ n = omega (arith, ints, order) in
      let products : m * w.e * w.rl * w.rc ≤ n * w'.e * w'.rl * w'.rc =
      mul-le-mul (mul-le-mul (mul-le-mul tenths e) rl) rc in
      ordered minor (temporal_number (pos m) w) (temporal_number (pos n) w') r s (lit< tt) (lit< tt)
      (record { at_most = omega (arith, ints, products) }) is_r is_s

  pub base_scores_ordered : (minor : ℕ) → IsAtMost (base_weights w) (base_weights w')
      → AreInOrder (IsBaseScore minor w) (IsBaseScore minor w')
  base_scores_ordered minor more r s is_r is_s =
      let order = base_ordered minor more is_r.number is_s.number is_r.is_number is_s.is_number in
      omega (arith, ints, order, is_r.is_count, is_s.is_count)

  pub temporal_scores_ordered : (minor : ℕ) → IsAtMost (temporal_weights w) (temporal_weights w')
      → AreInOrder (IsTemporalScore minor w) (IsTemporalScore minor w')
  temporal_scores_ordered minor (e, (rl, (rc, base))) r s is_r is_s =
      let m = is_r.is_number in
      let n = is_s.is_number in
      let order = product_ordered minor e rl rc m.base n.base is_r.number is_s.number
      (base_from_zero minor m.base m.is_base)
      (base_ordered minor base m.base n.base m.is_base n.is_base) m.is_rounded n.is_rounded in
      omega (arith, ints, order, is_r.is_count, is_s.is_count)
