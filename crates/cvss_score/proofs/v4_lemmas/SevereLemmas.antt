-- Values with no higher level score no less.
use Rattle.std.proofs.Common.{◌≡◌, ℕ, ◌-◌, ◌*◌, ◌/◌, ◌≤◌, max, Bool, true, false, ◌||◌, ltb, List, [], ◌∷◌, Option, Some, None, option_map, unwrap_or, refl, arith, ℤ, pos, ◌≤ℤ◌, ap, sym, ◌∙◌, subst, lit<}
use Rattle.std.specs.Option.{option_and_then}
use Rattle.std.proofs.Math.Nat.{mul-le-mul_left, mul-le-mul_right}
use Rattle.std.proofs.lemmas.Bool.Decides.{nat_tests}
use Rattle.std.proofs.lemmas.Int.{ints}
use Rattle.cvss_base.specs.Exact.{◌over◌, ◌⊑◌}
use Rattle.cvss_base.proofs.ExactLemmas.{equal_at_most, equal_sym, at_most_trans}
use Rattle.cvss_base.proofs.RoundingLemmas.{v4-ordered}
use Rattle.cvss_score.specs.v4.Distance.{eq1_sum, eq2_sum, eq3_eq6_sum, eq4_sum}
use Rattle.cvss_score.specs.v4.Classes.{macro_vector}
use Rattle.cvss_score.specs.v4.Gap.{Group, groups, next_lower}
use Rattle.cvss_score.specs.v4.Levels.{vulnerable_level, subsequent_level, safety_level}
use Rattle.cvss_score.specs.v4.Scores.{has_impact, is_vulnerable_impact, is_subsequent_impact, is_safety_impact, number, IsScore}
use Rattle.cvss_score.specs.AtMost.{IsAtMost}
use Rattle.cvss_score.specs.v4.AsSevere.{levels, IsAsSevere}
use Rattle.cvss_score.specs.v4.private.Shares.{taken, counted}
use Rattle.cvss_score.specs.v4.Values.{listed_value, table_value}
use Rattle.cvss_score.specs.declared.v4.scoring.effective.Effective.{Effective}
use Rattle.cvss_score.specs.declared.v4.scoring.effective.VulnerableImpact.{VulnerableImpact}
use Rattle.cvss_score.specs.declared.v4.scoring.effective.VulnerableImpact.TheVariants as impact
use Rattle.cvss_score.specs.declared.v4.scoring.effective.SubsequentImpact.{SubsequentImpact}
use Rattle.cvss_score.specs.declared.v4.scoring.effective.SubsequentImpact.TheVariants as subsequent
use Rattle.cvss_score.specs.declared.v4.scoring.effective.SafetyImpact.{SafetyImpact}
use Rattle.cvss_score.specs.declared.v4.scoring.effective.SafetyImpact.TheVariants as safety
use Rattle.cvss_score.proofs.v4_lemmas.GroupLemmas.{Graded, eq1, eq2, eq3_eq6, eq4, eq5, group_of, number_distance, distance_is}
use Rattle.cvss_score.proofs.v4_lemmas.MeanLemmas.{all_taken, all_counted}
use Rattle.cvss_score.proofs.v4_lemmas.ScoreLawLemmas.{count_if, count_of, in_504000ths}

-- of a greater distance at least as much is taken
part_ordered : (value near far depth : ℕ) (next : Option ℕ) → near ≤ far
    → unwrap_or (option_map (λ lower. (value - lower) * near * (840 / depth)) next) 0
    ≤ unwrap_or (option_map (λ lower. (value - lower) * far * (840 / depth)) next) 0
part_ordered value near far depth None order = omega arith
part_ordered value near far depth (Some lower) order =
    mul-le-mul_right (840 / depth) (mul-le-mul_left (value - lower) order)

-- two groups of one class, the second at no smaller distance
record IsFarther (near far : Group) : Type 0 where
  near_distance : ℕ
  far_distance : ℕ
  is_near : near.distance ≡ pos near_distance
  is_far : far.distance ≡ pos far_distance
  order : near_distance ≤ far_distance
  one_next : near.next ≡ far.next
  one_depth : near.depth ≡ far.depth

taken_ordered : (value : ℕ) (near far : Group) → IsFarther near far → taken value near ≤ taken value far
taken_ordered value near far farther =
    rw (farther.one_next, farther.one_depth, farther.is_near, farther.is_far)
    (part_ordered value farther.near_distance farther.far_distance far.depth (next_lower far) farther.order)

counted_alike : (near far : Group) → IsFarther near far → counted near ≡ counted far
counted_alike near far farther = ap (λ next. unwrap_or (option_map (λ _. 1) (option_and_then listed_value next)) 0) farther.one_next

-- so it is of values of one class whose level sums are in order
farther : (g : Graded) (v w : Effective) → macro_vector v ≡ macro_vector w → g.scale.sum (g.values v) ≤ g.scale.sum (g.values w)
    → IsFarther (group_of g v) (group_of g w)
farther g v w one order =
    let class : g.scale.class (g.values v) ≡ g.scale.class (g.values w) = sym (g.numbered v) ∙ ap g.number one ∙ g.numbered w in
    record {
      near_distance = number_distance g v;
      far_distance = number_distance g w;
      is_near = distance_is g v;
      is_far = distance_is g w;
      order = omega (arith, order, ap g.scale.least class);
      one_next = ap g.next one;
      one_depth = ap g.scale.depth class;
    }

-- an impact is there where its level is below that of none
vulnerable_is : (x : VulnerableImpact) → is_vulnerable_impact x ≡ ltb (vulnerable_level x) 2
vulnerable_is = elim [ impact.High ↦ refl | _ ↦ refl ]

subsequent_is : (x : SubsequentImpact) → is_subsequent_impact x ≡ ltb (subsequent_level x) 3
subsequent_is = elim [ subsequent.High ↦ refl | _ ↦ refl ]

safety_is : (x : SafetyImpact) → is_safety_impact x ≡ ltb (safety_level x) 3
safety_is = elim [ safety.High ↦ refl | _ ↦ refl ]

-- so an impact that is there is there at a lower level
pub kept : (x y : Bool) (less more none : ℕ) → x ≡ ltb less none → y ≡ ltb more none → less ≤ more → y ≡ true → x ≡ true
kept x y less more none is_x is_y order some = grind (arith, nat_tests)

pub either_kept : (x y a b : Bool) → (x ≡ true → a ≡ true) → (y ≡ true → b ≡ true) → (x || y) ≡ true → (a || b) ≡ true
either_kept true y a b left right h = rw (left refl) refl
either_kept false y true b left right h = refl
either_kept false y false b left right h = right h

-- what is left of a number where more is taken
rests_ordered : (n near far share : ℕ) → near ≤ far → n - far * share ≤ n - near * share
rests_ordered n near far share order = omega (arith, mul-le-mul_right share order)

-- two lists of groups of one class each, the second at no smaller distances
data AreFarther : List Group → List Group → Type 0 where
  none : AreFarther [] []
  more : {near far : Group} {nears fars : List Group} → IsFarther near far → AreFarther nears fars → AreFarther (near ∷ nears) (far ∷ fars)

all_ordered : (value : ℕ) (nears fars : List Group) → AreFarther nears fars → all_taken value nears ≤ all_taken value fars
all_ordered value _ _ none = omega arith
all_ordered value _ _ (more is are) = omega (arith, taken_ordered value _ _ is, all_ordered value _ _ are)

all_alike : (nears fars : List Group) → AreFarther nears fars → all_counted nears ≡ all_counted fars
all_alike _ _ none = refl
all_alike _ _ (more is are) = omega (arith, counted_alike _ _ is, all_alike _ _ are)

-- what the levels of values say that are at least as severe as others
pub record AreOrdered (v w : Effective) : Type 0 where
  pub eq1 : eq1_sum v.av v.pr v.ui ≤ eq1_sum w.av w.pr w.ui
  pub eq2 : eq2_sum v.ac v.at ≤ eq2_sum w.ac w.at
  pub eq3_eq6 : eq3_eq6_sum v.vc v.vi v.va v.cr v.ir v.ar ≤ eq3_eq6_sum w.vc w.vi w.va w.cr w.ir w.ar
  pub eq4 : eq4_sum v.sc v.si v.sa ≤ eq4_sum w.sc w.si w.sa
  pub impact : has_impact w ≡ true → has_impact v ≡ true

pub are_ordered : (v w : Effective) → IsAtMost (levels v) (levels w) → AreOrdered v w
are_ordered v w (av, (pr, (ui, (ac, (at, (vc, (vi, (va, (sc, (si, (sa, (cr, (ir, (ar, _)))))))))))))) = record {
  eq1 = omega (arith, av, pr, ui);
  eq2 = omega (arith, ac, at);
  eq3_eq6 = omega (arith, vc, vi, va, cr, ir, ar);
  eq4 = omega (arith, sc, si, sa);
  impact =
      either_kept _ _ _ _ (kept _ _ _ _ 2 (vulnerable_is v.vc) (vulnerable_is w.vc) vc)
      (either_kept _ _ _ _ (kept _ _ _ _ 2 (vulnerable_is v.vi) (vulnerable_is w.vi) vi)
      (either_kept _ _ _ _ (kept _ _ _ _ 2 (vulnerable_is v.va) (vulnerable_is w.va) va)
      (either_kept _ _ _ _ (kept _ _ _ _ 3 (subsequent_is v.sc) (subsequent_is w.sc) sc)
      (either_kept _ _ _ _ (kept _ _ _ _ 3 (safety_is v.si) (safety_is w.si) si) (kept _ _ _ _ 3 (safety_is v.sa) (safety_is w.sa) sa)))));
}

module _ (v w : Effective) (severe : IsAsSevere v w) where
  all_farther : AreFarther (groups v) (groups w)
  all_farther =
      let ordered = are_ordered v w severe.levels in
      let one = severe.one_class in
      more (farther eq1 v w one ordered.eq1) (more (farther eq2 v w one ordered.eq2) (more (farther eq3_eq6 v w one ordered.eq3_eq6)
      (more (farther eq4 v w one ordered.eq4) (more (farther eq5 v w one (omega arith)) none))))

  one_value : table_value v ≡ table_value w
  one_value = ap (λ m. unwrap_or (listed_value m) 0) severe.one_class

  counts_ordered : (b c : Bool) → has_impact v ≡ b → has_impact w ≡ c → count_if c w ≤ count_if b v
  counts_ordered b false some_v none_w = omega arith
  counts_ordered false true none_v some_w = let some_v = (are_ordered v w severe.levels).impact some_w in cc
  counts_ordered true true some_v some_w =
      let near = all_taken (table_value v) (groups v) in
      let far = all_taken (table_value v) (groups w) in
      let share = 60 / max (all_counted (groups v)) 1 in
      subst (λ (n : ℕ). 50400 * n - all_taken n (groups w) * (60 / max (all_counted (groups w)) 1) ≤ count_if true v) one_value
      (subst (λ (n : ℕ). 50400 * table_value v - far * (60 / max n 1) ≤ count_if true v) (all_alike (groups v) (groups w) all_farther)
      (rests_ordered (50400 * table_value v) near far share (all_ordered (table_value v) (groups v) (groups w) all_farther)))

  number_ordered : number w ⊑ number v
  number_ordered =
      let upper = count_of v over 504000 in
      let lower = count_of w over 504000 in
      let order : lower ⊑ upper = record { at_most = omega (arith, ints, counts_ordered (has_impact v) (has_impact w) refl refl) } in
      let to_upper = at_most_trans (number w) lower upper (lit< tt) (equal_at_most (number w) lower (in_504000ths w).0) order in
      at_most_trans (number w) upper (number v) (lit< tt) to_upper (equal_at_most upper (number v) (equal_sym (in_504000ths v).0))

pub severe_score : (v w : Effective) (r s : ℤ) → IsAsSevere v w → IsScore v r → IsScore w s → s ≤ℤ r
severe_score v w r s severe is_r is_s =
    v4-ordered (number w) (number v) s r (in_504000ths w).1 (in_504000ths v).1 (number_ordered v w severe) is_s is_r
