-- The groups of metrics with levels, and what holds of the level sums of each class.
use Rattle.std.proofs.Common.{◌≡◌, ℕ, ◌+◌, ◌-◌, ◌*◌, ◌/◌, ◌<◌, ◌≤◌, min, Bool, true, ◌&&◌, ◌==◌, leb, ltb, slice_index, refl, arith, ℤ, pos, ◌-ℤ◌}
use Rattle.std.proofs.lemmas.Bool.{and_parts}
use Rattle.std.proofs.lemmas.Bool.Decides.{nat_tests}
use denote.Enum.Declared.{tag_of}
use Rattle.cvss_score.specs.contracts.v4.scoring.effective as effective
use Rattle.cvss_score.specs.declared.v4.scoring.effective.ExploitMaturity.{ExploitMaturity}
use Rattle.cvss_score.specs.declared.v4.scoring.shares.TheConstants.{EQ1_LEAST, EQ1_PARTS, EQ2_LEAST, EQ2_PARTS, EQ3_EQ6_LEAST, EQ3_EQ6_PARTS, EQ4_LEAST, EQ4_PARTS}
use Rattle.cvss_score.specs.v4.Classes.{eq1, eq2, eq3, eq4, eq5, eq6, Eq1Values, Eq2Values, Eq3Eq6Values, Eq4Values}
use Rattle.cvss_score.specs.v4.Distance.{eq1_sum, eq1_least, eq2_sum, eq2_least, eq3_eq6_sum, eq3_eq6_least, eq4_sum, eq4_least}
use Rattle.cvss_score.specs.v4.Gap.{eq1_depth, eq2_depth, eq3_eq6_depth, eq4_depth}
use Rattle.cvss_score.proofs.v4_lemmas.TestLemmas.{Finite, each_eq1, each_eq2, each_eq3_eq6, each_eq4, each_exploit_maturity, Classes, up_to, numbers, IsPairOf, pairs}

-- what a group says of its values and of its classes: the class and the level sum of values, and the least sum of a
-- class and its depth; and what the code has in their place: the sum by the places of the values, the least sum, and
-- the part of 840
pub record Scale (V C : Type 0) : Type 0 where
  pub class : V → C
  pub sum : V → ℕ
  pub least : C → ℕ
  pub depth : C → ℕ
  pub found : V → ℕ
  pub constant : C → ℕ
  pub part : C → ℕ

-- the code finds the sum, which is from the least sum of the class on and less than the depth above it
pub record IsWithin (found sum least depth : ℕ) : Type 0 where
  pub is_sum : found ≡ sum
  pub from_least : least ≤ found
  pub to_depth : found < least + depth

within_is : (found sum least depth : ℕ) → ((found == sum) && (leb least found && ltb found (least + depth))) ≡ true
    → IsWithin found sum least depth
within_is found sum least depth h =
    record { is_sum = grind (arith, nat_tests); from_least = grind (arith, nat_tests); to_depth = grind (arith, nat_tests) }

-- the code has the least sum and the part of a class
pub record IsTabled (least constant part depth : ℕ) : Type 0 where
  pub is_least : least ≡ constant
  pub is_part : part ≡ 840 / depth
  pub is_depth : 840 / part ≡ depth
  pub divides : depth * part ≡ 840
  pub some : 84 ≤ part

tabled_is : (least constant part depth : ℕ)
    → ((least == constant) && ((part == 840 / depth) && ((840 / part == depth) && ((depth * part == 840) && leb 84 part)))) ≡ true
    → IsTabled least constant part depth
tabled_is least constant part depth h =
    record {
      is_least = grind (arith, nat_tests);
      is_part = grind (arith, nat_tests);
      is_depth = grind (arith, nat_tests);
      divides = grind (arith, nat_tests);
      some = grind (arith, nat_tests);
    }

-- so it is of all values and all classes
pub record IsScale {V C : Type 0} (scale : Scale V C) (IsClass : C → Type 0) : Type 0 where
  pub is_class : (v : V) → IsClass (scale.class v)
  pub within : (v : V) → IsWithin (scale.found v) (scale.sum v) (scale.least (scale.class v)) (scale.depth (scale.class v))
  pub tabled : (class : C) → IsClass class → IsTabled (scale.least class) (scale.constant class) (scale.part class) (scale.depth class)

module _ {V C : Type 0} (scale : Scale V C) where
  -- the distance of values
  abbrev pub distance : V → ℤ
  distance v = pos (scale.sum v) -ℤ pos (scale.least (scale.class v))

  -- what holds of values and of classes, as tests
  abbrev is_within : V → Bool
  is_within v =
      let low = scale.constant (scale.class v) in
      (scale.found v == scale.sum v) && (leb low (scale.found v) && ltb (scale.found v) (low + scale.depth (scale.class v)))

  abbrev is_tabled : C → Bool
  is_tabled class =
      let part = scale.part class in
      let depth = scale.depth class in
      (scale.least class == scale.constant class)
      && ((part == 840 / depth) && ((840 / part == depth) && ((depth * part == 840) && leb 84 part)))

  pub is_scale : {IsClass : C → Type 0} (values : Finite V) (classes : Classes IsClass)
      → values.every (λ v. classes.is_class (scale.class v) && is_within v) ≡ true → classes.every is_tabled ≡ true
      → IsScale scale IsClass
  is_scale {IsClass = IsClass} values classes within tabled =
      let of_class : (class : C) → IsClass class → IsTabled (scale.least class) (scale.constant class) (scale.part class) (scale.depth class) =
      λ class is. tabled_is _ _ _ _ (classes.each is_tabled tabled class is) in
      let of_values : (v : V) → (classes.is_class (scale.class v) ≡ true) × (is_within v ≡ true) =
      λ v. and_parts (classes.is_class (scale.class v)) (is_within v) (values.each _ within v) in
      let is_class : (v : V) → IsClass (scale.class v) = λ v. classes.reports (scale.class v) (of_values v).0 in
      record {
        is_class = is_class;
        within = λ v. rw (of_class (scale.class v) (is_class v)).is_least (within_is _ _ _ _ (of_values v).1);
        tabled = of_class;
      }

-- EQ1
abbrev pub eq1_scale : Scale Eq1Values ℕ
eq1_scale = record {
  class = λ v. eq1 v.0 v.1 v.2;
  sum = λ v. eq1_sum v.0 v.1 v.2;
  least = eq1_least;
  depth = eq1_depth;
  found = λ v. 3 - tag_of effective.AttackVector.the_type v.0 + (2 - tag_of effective.PrivilegesRequired.the_type v.1) + (2 - tag_of effective.UserInteraction.the_type v.2);
  constant = slice_index EQ1_LEAST;
  part = slice_index EQ1_PARTS;
}

pub eq1_is_scale : IsScale eq1_scale (up_to 2)
unfolding eq1_least
eq1_is_scale = is_scale eq1_scale each_eq1 (numbers 2) refl refl

-- EQ2
abbrev pub eq2_scale : Scale Eq2Values ℕ
eq2_scale = record {
  class = λ v. eq2 v.0 v.1;
  sum = λ v. eq2_sum v.0 v.1;
  least = eq2_least;
  depth = eq2_depth;
  found = λ v. 1 - tag_of effective.AttackComplexity.the_type v.0 + (1 - tag_of effective.AttackRequirements.the_type v.1);
  constant = slice_index EQ2_LEAST;
  part = slice_index EQ2_PARTS;
}

pub eq2_is_scale : IsScale eq2_scale (up_to 1)
unfolding eq2_least
eq2_is_scale = is_scale eq2_scale each_eq2 (numbers 1) refl refl

-- EQ4
abbrev pub eq4_scale : Scale Eq4Values ℕ
eq4_scale = record {
  class = λ v. eq4 v.0 v.1 v.2;
  sum = λ v. eq4_sum v.0 v.1 v.2;
  least = eq4_least;
  depth = eq4_depth;
  found = λ v. 1 + tag_of effective.SubsequentImpact.the_type v.0 + tag_of effective.SafetyImpact.the_type v.1 + tag_of effective.SafetyImpact.the_type v.2;
  constant = slice_index EQ4_LEAST;
  part = slice_index EQ4_PARTS;
}

pub eq4_is_scale : IsScale eq4_scale (up_to 2)
unfolding eq4_least
eq4_is_scale = is_scale eq4_scale each_eq4 (numbers 2) refl refl

-- EQ5, each of whose classes has one value
abbrev pub eq5_scale : Scale ExploitMaturity ℕ
eq5_scale = record { class = eq5; sum = λ _. 0; least = λ _. 0; depth = λ _. 1; found = λ _. 0; constant = λ _. 0; part = λ _. 840 }

pub eq5_is_scale : IsScale eq5_scale (up_to 2)
eq5_is_scale = is_scale eq5_scale each_exploit_maturity (numbers 2) refl refl

-- EQ3 with EQ6, whose classes have their places
abbrev pub eq3_eq6_scale : Scale Eq3Eq6Values (ℕ × ℕ)
eq3_eq6_scale = record {
  class = λ v. (eq3 v.0 v.1 v.2, eq6 v.0 v.1 v.2 v.3 v.4 v.5);
  sum = λ v. eq3_eq6_sum v.0 v.1 v.2 v.3 v.4 v.5;
  least = λ class. eq3_eq6_least class.0 class.1;
  depth = λ class. eq3_eq6_depth class.0 class.1;
  found = λ v.
      tag_of effective.VulnerableImpact.the_type v.0 + tag_of effective.VulnerableImpact.the_type v.1 + tag_of effective.VulnerableImpact.the_type v.2
      + (tag_of effective.Requirement.the_type v.3 + tag_of effective.Requirement.the_type v.4 + tag_of effective.Requirement.the_type v.5);
  constant = λ class. slice_index EQ3_EQ6_LEAST (min (2 * class.0 + class.1) 4);
  part = λ class. slice_index EQ3_EQ6_PARTS (min (2 * class.0 + class.1) 4);
}

pub eq3_eq6_is_scale : IsScale eq3_eq6_scale IsPairOf
unfolding eq3_eq6_least
eq3_eq6_is_scale = is_scale eq3_eq6_scale each_eq3_eq6 pairs refl refl
