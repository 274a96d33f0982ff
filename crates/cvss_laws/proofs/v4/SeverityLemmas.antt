-- Effective values with no higher level score no less, of whatever classes: what a step to a lower class takes of the
-- value is more than the distances can, by trying all classes.
use Rattle.std.proofs.Common.{◌≡◌, ℕ, ◌+◌, ◌-◌, ◌*◌, ◌/◌, ◌<◌, ◌≤◌, max, Bool, true, false, not, ◌&&◌, ◌||◌, eqb, leb, Option, Some, None, option_map, unwrap_or, if◌then◌else◌, inl, inr, refl, arith, ℤ, ◌≤ℤ◌, ap, lit<}
use Rattle.std.specs.Option.{option_and_then}
use Rattle.std.proofs.Math.Nat.{mul-le-mul_left, mul-le-mul_right}
use Rattle.std.proofs.lemmas.Bool.{and_parts, eqb-true, leb-true, or_cases, false≢true}
use Rattle.std.proofs.lemmas.Bool.Decides.{nat_tests}
use Rattle.std.proofs.lemmas.Int.{ints}
use Rattle.cvss_base.specs.Exact.{◌over◌, ◌⊑◌}
use Rattle.cvss_base.proofs.ExactLemmas.{equal_at_most, equal_sym, at_most_trans}
use Rattle.cvss_base.proofs.RoundingLemmas.{v4-ordered}
use Rattle.cvss_score.specs.AtMost.{IsAtMost}
use Rattle.cvss_score.specs.v4.Classes.{macro_vector}
use Rattle.cvss_score.specs.v4.Gap.{next_lower, eq1_next, eq2_next, eq3_eq6_next, eq4_next, eq5_next, eq1_depth, eq2_depth, eq3_eq6_depth, eq4_depth}
use Rattle.cvss_score.specs.v4.Scores.{has_impact, number, IsScore}
use Rattle.cvss_score.specs.v4.Values.{rows, listed_value, class_value}
use Rattle.cvss_score.specs.v4.private.Shares.{taken}
use Rattle.cvss_score.specs.declared.v4.scoring.classes.MacroVector.{MacroVector}
use Rattle.cvss_score.specs.declared.v4.scoring.effective.Effective.{Effective}
use Rattle.cvss_score.proofs.v4_lemmas.ClassLemmas.{macro_vector_is}
use Rattle.cvss_score.proofs.v4_lemmas.GroupLemmas.{Graded, eq1, eq2, eq3_eq6, eq4, eq5, group_of, number_distance, distance_is}
use Rattle.cvss_score.proofs.v4_lemmas.SevereLemmas.{are_ordered}
use Rattle.cvss_score.proofs.v4_lemmas.ScoreLawLemmas.{count_if, count_of, in_504000ths}
use Rattle.cvss_score.proofs.v4_lemmas.TableLemmas.{all_classes, each_class}
use Rattle.cvss_laws.specs.v4.Severity.{all_levels}
use Rattle.cvss_laws.proofs.v4.OrderLemmas.{AreClassesOrdered, classes_ordered}

-- what a group takes of the value for each tenth of distance, in 504000ths of a point, of so many parts of the mean
abbrev rate : ℕ → Option MacroVector → ℕ → ℕ → ℕ
rate value next depth share =
    unwrap_or (option_map (λ lower. (value - lower) * (840 / depth)) (option_and_then listed_value next)) 0 * share

abbrev counts : Option MacroVector → ℕ
counts next = unwrap_or (option_map (λ _. 1) (option_and_then listed_value next)) 0

-- the parts of 60 that each group of a class has in the mean
abbrev share_of : MacroVector → ℕ
share_of m =
    60 / max (counts (eq1_next m) + (counts (eq2_next m) +
    (counts (eq3_eq6_next m) + (counts (eq4_next m) + (counts (eq5_next m) + 0))))) 1

-- the rates of a class, in EQ1, EQ2, EQ3 with EQ6, and EQ4
abbrev eq1_rate : MacroVector → ℕ
eq1_rate m = rate (class_value m) (eq1_next m) (eq1_depth m.eq1) (share_of m)

abbrev eq2_rate : MacroVector → ℕ
eq2_rate m = rate (class_value m) (eq2_next m) (eq2_depth m.eq2) (share_of m)

abbrev eq3_eq6_rate : MacroVector → ℕ
eq3_eq6_rate m = rate (class_value m) (eq3_eq6_next m) (eq3_eq6_depth m.eq3 m.eq6) (share_of m)

abbrev eq4_rate : MacroVector → ℕ
eq4_rate m = rate (class_value m) (eq4_next m) (eq4_depth m.eq4) (share_of m)

-- by how much more the first class can take than the second, at distances below this depth, in order in one class
abbrev excess : Bool → ℕ → ℕ → ℕ → ℕ
excess same first second depth = (if same then first - second else first) * (depth - 1)

abbrev eq1_excess : MacroVector → MacroVector → ℕ
eq1_excess m k = excess (eqb m.eq1 k.eq1) (eq1_rate m) (eq1_rate k) (eq1_depth m.eq1)

abbrev eq2_excess : MacroVector → MacroVector → ℕ
eq2_excess m k = excess (eqb m.eq2 k.eq2) (eq2_rate m) (eq2_rate k) (eq2_depth m.eq2)

abbrev eq3_eq6_excess : MacroVector → MacroVector → ℕ
eq3_eq6_excess m k =
    excess (eqb m.eq3 k.eq3 && eqb m.eq6 k.eq6) (eq3_eq6_rate m) (eq3_eq6_rate k) (eq3_eq6_depth m.eq3 m.eq6)

abbrev eq4_excess : MacroVector → MacroVector → ℕ
eq4_excess m k = excess (eqb m.eq4 k.eq4) (eq4_rate m) (eq4_rate k) (eq4_depth m.eq4)

-- whether no number of the first is above that of the second
abbrev is_no_lower : MacroVector → MacroVector → Bool
is_no_lower m k =
    leb m.eq1 k.eq1 && (leb m.eq2 k.eq2 && (leb m.eq3 k.eq3 &&
    (leb m.eq4 k.eq4 && (leb m.eq5 k.eq5 && leb m.eq6 k.eq6))))

-- whether the first value then outweighs the excesses
abbrev outweighs : MacroVector → MacroVector → Bool
outweighs m k =
    not (is_no_lower m k)
    || leb (50400 * class_value k + (eq1_excess m k + (eq2_excess m k + (eq3_eq6_excess m k + eq4_excess m k))))
    (50400 * class_value m)

all_outweigh : all_classes (λ m. all_classes (outweighs m)) ≡ true
unfolding rows listed_value
all_outweigh = refl

no_lower_is : (m k : MacroVector) → AreClassesOrdered m k → is_no_lower m k ≡ true
no_lower_is m k are =
    let first = are.eq1 in
    let second = are.eq2 in
    let third = are.eq3 in
    let fourth = are.eq4 in
    let fifth = are.eq5 in
    let sixth = are.eq6 in
    grind (arith, nat_tests)

value_outweighs : (v w : Effective) → AreClassesOrdered (macro_vector v) (macro_vector w)
    → let m = macro_vector v in let k = macro_vector w in
    50400 * class_value k + (eq1_excess m k + (eq2_excess m k + (eq3_eq6_excess m k + eq4_excess m k))) ≤ 50400 *
    class_value m
value_outweighs v w are =
    let m = macro_vector v in
    let k = macro_vector w in
    let all = each_class (λ m. all_classes (outweighs m)) all_outweigh m (macro_vector_is v) in
    elim (or_cases (not (is_no_lower m k)) _ (each_class (outweighs m) all k (macro_vector_is w))) [
      | inl lower ↦ let is = no_lower_is m k are in absurd (false≢true cc)
      | inr order ↦ leb-true _ _ order
    ]

-- what is taken is the rate for each tenth of distance
part_is : (value distance depth share : ℕ) (next : Option ℕ)
    → unwrap_or (option_map (λ lower. (value - lower) * distance * (840 / depth)) next) 0 * share
    ≡ unwrap_or (option_map (λ lower. (value - lower) * (840 / depth)) next) 0 * share * distance
part_is value distance depth share None = omega arith
part_is value distance depth share (Some lower) = omega arith

abbrev depth_of : Graded → Effective → ℕ
depth_of g v = g.scale.depth (g.scale.class (g.values v))

abbrev rate_of : Graded → Effective → ℕ → ℕ
rate_of g v share = rate (class_value (macro_vector v)) (g.next (macro_vector v)) (depth_of g v) share

taken_is : (g : Graded) (v : Effective) (share : ℕ)
    → taken (class_value (macro_vector v)) (group_of g v) * share ≡ rate_of g v share * number_distance g v
taken_is g v share =
    rw (distance_is g v)
    (part_is (class_value (macro_vector v)) (number_distance g v) (depth_of g v) share (next_lower (group_of g v)))

-- of two rates, with distances that are in order in one class
rates_within : (same : Bool) (a b depth d d' : ℕ) → d < depth → (same ≡ true → d ≤ d')
    → a * d ≤ b * d' + excess same a b depth
rates_within true a b depth d d' below order =
    let less : a ≤ b + (a - b) = omega arith in
    let to_depth : d ≤ depth - 1 = omega (arith, below) in
    omega (arith, mul-le-mul_right d less, mul-le-mul_left b (order refl), mul-le-mul_left (a - b) to_depth)
rates_within false a b depth d d' below order =
    let to_depth : d ≤ depth - 1 = omega (arith, below) in omega (arith, mul-le-mul_left a to_depth)

-- a group whose level sums are in order
group_within : (g : Graded) (v w : Effective) (same : Bool) (share other : ℕ)
    → (same ≡ true → g.scale.class (g.values v) ≡ g.scale.class (g.values w))
    → g.scale.sum (g.values v) ≤ g.scale.sum (g.values w)
    → taken (class_value (macro_vector v)) (group_of g v) * share
    ≤ taken (class_value (macro_vector w)) (group_of g w) * other
    + excess same (rate_of g v share) (rate_of g w other) (depth_of g v)
group_within g v w same share other classes sums =
    let scaled = g.is.within (g.values v) in
    let within = rates_within same (rate_of g v share) (rate_of g w other) (depth_of g v) (number_distance g v)
    (number_distance g w)
    (omega (arith, scaled.is_sum, scaled.from_least, scaled.to_depth))
    (λ is. omega (arith, sums, ap g.scale.least (classes is))) in
    omega (arith, taken_is g v share, taken_is g w other, within)

none_taken : (value : ℕ) (next : Option ℕ) → unwrap_or (option_map (λ lower. (value - lower) * 0 * (840 / 1)) next) 0
    ≡ 0
none_taken value None = refl
none_taken value (Some lower) = omega arith

module _ (v w : Effective) (severe : IsAtMost (all_levels v) (all_levels w)) where
  counts_ordered : (b c : Bool) → has_impact v ≡ b → has_impact w ≡ c → count_if c w ≤ count_if b v
  counts_ordered b false some_v none_w = omega arith
  counts_ordered false true none_v some_w = let some_v = (are_ordered v w severe.1).impact some_w in cc
  counts_ordered true true some_v some_w =
      let m = macro_vector v in
      let k = macro_vector w in
      let s = share_of m in
      let t = share_of k in
      let sums = are_ordered v w severe.1 in
      let first = group_within eq1 v w (eqb m.eq1 k.eq1) s t (eqb-true m.eq1 k.eq1) sums.eq1 in
      let second = group_within eq2 v w (eqb m.eq2 k.eq2) s t (eqb-true m.eq2 k.eq2) sums.eq2 in
      let third = group_within eq3_eq6 v w (eqb m.eq3 k.eq3 && eqb m.eq6 k.eq6) s t
      (λ is. let parts = and_parts (eqb m.eq3 k.eq3) (eqb m.eq6 k.eq6) is in
      λ at. (eqb-true m.eq3 k.eq3 parts.0 at, eqb-true m.eq6 k.eq6 parts.1 at)) sums.eq3_eq6 in
      let fourth = group_within eq4 v w (eqb m.eq4 k.eq4) s t (eqb-true m.eq4 k.eq4) sums.eq4 in
      let none = none_taken (class_value m) (next_lower (group_of eq5 v)) in
      let value = value_outweighs v w (classes_ordered v w severe) in
      omega (arith, first, second, third, fourth, ap (λ n. n * s) none, value)

  number_ordered : number w ⊑ number v
  number_ordered =
      let upper = count_of v over 504000 in
      let lower = count_of w over 504000 in
      let order : lower ⊑ upper = record {
        at_most =
            omega (arith, ints, counts_ordered (has_impact v) (has_impact w) refl refl);
      } in
      let to_upper = at_most_trans (number w) lower upper (lit< tt)
      (equal_at_most (number w) lower (in_504000ths w).0) order in
      at_most_trans (number w) upper (number v) (lit< tt) to_upper
      (equal_at_most upper (number v) (equal_sym (in_504000ths v).0))

pub severe_score : (v w : Effective) (r s : ℤ) → IsAtMost (all_levels v) (all_levels w) → IsScore v r → IsScore w s
    → s ≤ℤ r
severe_score v w r s severe is_r is_s =
    v4-ordered (number w) (number v) s r (in_504000ths w).1 (in_504000ths v).1 (number_ordered v w severe) is_s is_r
