-- The base number with AdjustedImpact in the place of Impact is negative exactly of vectors with one low impact: by
-- trying all.
use Rattle.std.specs.Prelude.{◌↔◌, option_map, unwrap_or, if◌then◌else◌}
use Rattle.std.specs.List.{list_all}
use Rattle.std.specs.Option.{option_map_or}
use Rattle.std.specs.Str.{bytes_eq}
use Rattle.std.proofs.Common.{◌≡◌, ℕ, ◌*◌, ◌^◌, Bool, List, true, false, ◌&&◌, ◌||◌, eqb, ltb, codes, Option, refl, rules, arith, sym, subst, lit<}
use Rattle.std.proofs.lemmas.Bool.{false≢true}
use Rattle.std.proofs.lemmas.Int.{ints}
use Rattle.cvss_base.specs.Exact.{Exact, ◌over◌, whole, smaller, ◌⊏◌, ◌⊑◌}
use Rattle.cvss_base.specs.declared.v2.MetricType.{MetricType}
use Rattle.cvss_base.specs.declared.v2.MetricType.TheVariants.{A, AC, AV, Au, C, I, CR, IR, AR}
use Rattle.cvss_base.proofs.TestLemmas.{is_below, below_if, is_at_most, at_most_if, passes, passes_three}
use Rattle.cvss_metric.specs.v2.Table.{Value, spelling_of, weight_of, absent_weight}
use Rattle.cvss_score.specs.v2.Scores.{impact_of, adjusted_impact, base_number, exploitability}
use Rattle.cvss_vector.specs.declared.v2.vector.Vector.{Vector}
use Rattle.cvss_vector.specs.v2.Vector.{value_at}
use Rattle.cvss_vector.specs.v2.Weights.{weight_in, weights_of}
use Rattle.cvss_laws.specs.v2.NegativeBase.{HasNegativeBase, has, has_or_lacks, is_hardest, has_one_low_impact}
use Rattle.cvss_laws.proofs.v2.TableLemmas.{weighted_impacts, weighted_listed, weight_listed, exploitabilities, exploitability_listed}

-- 0.275 * 0.5, in millionths, of one impact alone
abbrev is_low : ℕ → ℕ → ℕ → Bool
is_low impact other another = eqb impact 137_500 && (eqb other 0 && eqb another 0)

-- which weighted impacts and exploitabilities have a negative base number
abbrev is_case : ℕ → ℕ → ℕ → ℕ → Bool
is_case c i a x = ltb x 1_600_000_000 && (is_low c i a || (is_low i c a || is_low a c i))

abbrev number : ℕ → ℕ → ℕ → ℕ → Exact
number c i a x =
    base_number (smaller (whole 10) (impact_of (c over 1_000_000) (i over 1_000_000) (a over 1_000_000)))
    (x over (10 ^ 9))

-- whether the number is below 0, or else not
abbrev has_sign : Bool → Exact → Bool
has_sign negative x = if negative then is_below x (whole 0) else is_at_most (whole 0) x

unfoldable signs_are : ℕ → ℕ → ℕ → Bool
signs_are c i a = list_all (λ x. has_sign (is_case c i a x) (number c i a x)) exploitabilities

all_signs_are : list_all
    (λ c. list_all (λ i. list_all (λ a. signs_are c i a) weighted_impacts) weighted_impacts) weighted_impacts ≡ true
unfolding signs_are
all_signs_are = refl

-- the weight of a value, which may be absent
abbrev weigh : (kind : MetricType) → Option (Value kind) → ℕ
weigh kind held = unwrap_or (option_map (weight_of kind) held) (absent_weight kind)

-- a value that is spelled so
abbrev is_spelled : (kind : MetricType) → Option (Value kind) → List ℕ → Bool → Bool
is_spelled kind held text absent = option_map_or (λ own. bytes_eq own text) (option_map (spelling_of kind) held) absent

abbrev is_hard : Option (Value AV) → Option (Value AC) → Option (Value Au) → Bool
is_hard av ac au =
    (option_map_or (λ own. false) (option_map (spelling_of AV) av) true
    || (option_map_or (λ own. false) (option_map (spelling_of AC) ac) true || option_map_or (λ own. false)
    (option_map (spelling_of Au) au) true))
    || (is_spelled AV av (codes "L") false && (is_spelled AC ac (codes "H") false
    && (is_spelled Au au (codes "M") false || is_spelled Au au (codes "S") false)))

access_is : (av : Option (Value AV)) (ac : Option (Value AC)) (au : Option (Value Au))
    → ltb (20 * weigh AV av * weigh AC ac * weigh Au au) 1_600_000_000 ≡ is_hard av ac au
access_is = search rules

c_low : (c : Option (Value C)) (r : Option (Value CR))
    → eqb (weigh C c * weigh CR r) 137_500 ≡ (is_spelled C c (codes "P") false && is_spelled CR r (codes "L") false)
c_low = search rules

c_none : (c : Option (Value C)) (r : Option (Value CR))
    → eqb (weigh C c * weigh CR r) 0 ≡ is_spelled C c (codes "N") true
c_none = search rules

i_low : (i : Option (Value I)) (r : Option (Value IR))
    → eqb (weigh I i * weigh IR r) 137_500 ≡ (is_spelled I i (codes "P") false && is_spelled IR r (codes "L") false)
i_low = search rules

i_none : (i : Option (Value I)) (r : Option (Value IR))
    → eqb (weigh I i * weigh IR r) 0 ≡ is_spelled I i (codes "N") true
i_none = search rules

a_low : (a : Option (Value A)) (r : Option (Value AR))
    → eqb (weigh A a * weigh AR r) 137_500 ≡ (is_spelled A a (codes "P") false && is_spelled AR r (codes "L") false)
a_low = search rules

a_none : (a : Option (Value A)) (r : Option (Value AR))
    → eqb (weigh A a * weigh AR r) 0 ≡ is_spelled A a (codes "N") true
a_none = search rules

-- of tests of the access, and of each impact whether it is low and whether it is none
abbrev one_low : Bool → Bool → Bool → Bool → Bool → Bool → Bool → Bool
one_low hard c_is c_not i_is i_not a_is a_not =
    hard && ((c_is && (i_not && a_not)) || ((i_is && (c_not && a_not)) || (a_is && (c_not && i_not))))

by_sign : (b : Bool) (x : Exact) → has_sign b x ≡ true → (b ≡ true → x ⊏ whole 0) × (b ≡ false → whole 0 ⊑ x)
by_sign true x holds = (λ is. below_if x (whole 0) holds, λ other. absurd (false≢true (sym other)))
by_sign false x holds = (λ is. absurd (false≢true is), λ other. at_most_if (whole 0) x holds)

true_unless : (b : Bool) → (b ≡ false → ⊥) → b ≡ true
true_unless true impossible = refl
true_unless false impossible = absurd (impossible refl)

module _ (v : Vector) where
  case_is : is_case (weight_in v C * weight_in v CR) (weight_in v I * weight_in v IR) (weight_in v A * weight_in v AR)
      (20 * weight_in v AV * weight_in v AC * weight_in v Au) ≡ has_one_low_impact v
  case_is =
      λ at. one_low (access_is v.av v.ac v.au at) (c_low v.c v.cr at) (c_none v.c v.cr at) (i_low v.i v.ir at)
      (i_none v.i v.ir at)
      (a_low v.a v.ar at) (a_none v.a v.ar at)

  sign_is : has_sign (has_one_low_impact v)
      (base_number (adjusted_impact (weights_of v)) (exploitability (weights_of v))) ≡ true
  unfolding signs_are
  sign_is =
      let w = weights_of v in
      let c = w.c * w.cr in
      let i = w.i * w.ir in
      let a = w.a * w.ar in
      let all = passes_three signs_are weighted_impacts weighted_impacts weighted_impacts c i a all_signs_are
      (weighted_listed w.c w.cr (weight_listed v C) (weight_listed v CR))
      (weighted_listed w.i w.ir (weight_listed v I) (weight_listed v IR))
      (weighted_listed w.a w.ar (weight_listed v A) (weight_listed v AR)) in
      subst (λ (b : Bool). has_sign b (base_number (adjusted_impact w) (exploitability w)) ≡ true) case_is
      (passes (λ x. has_sign (is_case c i a x) (number c i a x)) exploitabilities _ all (exploitability_listed v))

  pub not_negative : has_one_low_impact v ≡ false → whole 0 ⊑ base_number (adjusted_impact (weights_of v))
      (exploitability (weights_of v))
  not_negative = (by_sign (has_one_low_impact v) _ sign_is).1

  pub negative_exactly : HasNegativeBase (weights_of v) ↔ (has_one_low_impact v ≡ true)
  negative_exactly = (
    λ negative. true_unless (has_one_low_impact v)
        (λ none. let from_zero = not_negative none in omega (arith, ints, negative.below, from_zero.at_most)),
    (by_sign (has_one_low_impact v) _ sign_is).0,
  )
