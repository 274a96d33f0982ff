-- A test that computes to true for all values of a type, or all numbers below a limit, holds of each.
use Rattle.std.proofs.Common.{◌≡◌, ℕ, suc, ◌-◌, ◌≤◌, Bool, true, not, ◌&&◌, ◌||◌, ◌==◌, leb, List, Some, slice_get, refl, arith}
use Rattle.std.specs.List.{list_all}
use Rattle.std.proofs.lemmas.Bool.{agree_below, agree_below_at, and_parts, leb-true}
use Rattle.std.proofs.lemmas.Bool.Decides.{nat_tests}
use Rattle.std.proofs.lemmas.List.Elements.{All-contains}
use Rattle.std.proofs.lemmas.List.Sums.{AllPass-from_list_all}
use Rattle.std.proofs.lemmas.Option.{get_or_from_slice_get, slice_get_within}
use Rattle.cvss_score.specs.v4.Effective.{attack_vectors, privileges, user_interactions, attack_complexities, all_attack_requirements, vulnerable_impacts, subsequent_impacts, safety_impacts, requirements, exploit_maturities, values}
use Rattle.cvss_score.specs.v4.Levels.{attack_vector_level, privileges_level, interaction_level, complexity_level, requirements_level, vulnerable_level, subsequent_level, safety_level, requirement_level}
use Rattle.cvss_score.specs.v4.Classes.{eq5, IsPair, Eq1Values, Eq2Values, Eq3Eq6Values, Eq4Values}
use Rattle.cvss_score.specs.declared.v4.scoring.effective as effective

-- a type of few values: a test of all of them, and that it holds of each
pub record Finite (A : Type 0) : Type 0 where
  pub every : (A → Bool) → Bool
  pub each : (p : A → Bool) → every p ≡ true → (x : A) → p x ≡ true

-- the values of a list, in which each has its place
abbrev listed : {A : Type 0} (xs : List A) (place : A → ℕ) → ((x : A) → slice_get xs (place x) ≡ Some x) → Finite A
listed xs place here = record {
  every = λ p. list_all p xs;
  each = λ p h x. All-contains (λ y. p y ≡ true) xs x (AllPass-from_list_all p xs h)
      (place x, slice_get_within xs (place x) x (here x), get_or_from_slice_get xs (place x) x x (here x));
}

-- two, three and six values together
abbrev two : {A B : Type 0} → Finite A → Finite B → Finite (A × B)
two a b = record {
  every = λ p. a.every (λ x. b.every (λ y. p (x, y)));
  each = λ p h v. b.each (λ y. p (v.0, y)) (a.each (λ x. b.every (λ y. p (x, y))) h v.0) v.1;
}

abbrev three : {A B C : Type 0} → Finite A → Finite B → Finite C → Finite (A × B × C)
three a b c = record {
  every = λ p. a.every (λ x. (two b c).every (λ v. p (x, v.0, v.1)));
  each = λ p h v. (two b c).each (λ w. p (v.0, w.0, w.1)) (a.each (λ x. (two b c).every (λ w. p (x, w.0, w.1))) h v.0) (v.1, v.2);
}

abbrev six : {A B : Type 0} → Finite A → Finite B → Finite (A × A × A × B × B × B)
six a b = record {
  every = λ p. (three a a a).every (λ v. (three b b b).every (λ w. p (v.0, v.1, v.2, w.0, w.1, w.2)));
  each = λ p h v. (three b b b).each (λ w. p (v.0, v.1, v.2, w.0, w.1, w.2))
      ((three a a a).each (λ u. (three b b b).every (λ w. p (u.0, u.1, u.2, w.0, w.1, w.2))) h (v.0, v.1, v.2)) (v.3, v.4, v.5);
}

abbrev each_attack_vector : Finite effective.AttackVector.AttackVector
each_attack_vector = listed (values attack_vectors) attack_vector_level (elim [ effective.AttackVector.TheVariants.Network ↦ refl | _ ↦ refl ])

abbrev each_privileges_required : Finite effective.PrivilegesRequired.PrivilegesRequired
each_privileges_required = listed (values privileges) privileges_level (elim [ effective.PrivilegesRequired.TheVariants.None ↦ refl | _ ↦ refl ])

abbrev each_user_interaction : Finite effective.UserInteraction.UserInteraction
each_user_interaction = listed (values user_interactions) interaction_level (elim [ effective.UserInteraction.TheVariants.None ↦ refl | _ ↦ refl ])

abbrev each_attack_complexity : Finite effective.AttackComplexity.AttackComplexity
each_attack_complexity = listed (values attack_complexities) complexity_level (elim [ effective.AttackComplexity.TheVariants.Low ↦ refl | _ ↦ refl ])

abbrev each_attack_requirements : Finite effective.AttackRequirements.AttackRequirements
each_attack_requirements = listed (values all_attack_requirements) requirements_level (elim [ effective.AttackRequirements.TheVariants.None ↦ refl | _ ↦ refl ])

abbrev each_vulnerable_impact : Finite effective.VulnerableImpact.VulnerableImpact
each_vulnerable_impact = listed (values vulnerable_impacts) vulnerable_level (elim [ effective.VulnerableImpact.TheVariants.High ↦ refl | _ ↦ refl ])

abbrev each_subsequent_impact : Finite effective.SubsequentImpact.SubsequentImpact
each_subsequent_impact = listed (values subsequent_impacts) (λ x. subsequent_level x - 1) (elim [ effective.SubsequentImpact.TheVariants.High ↦ refl | _ ↦ refl ])

abbrev each_safety_impact : Finite effective.SafetyImpact.SafetyImpact
each_safety_impact = listed (values safety_impacts) safety_level (elim [ effective.SafetyImpact.TheVariants.High ↦ refl | _ ↦ refl ])

abbrev each_requirement : Finite effective.Requirement.Requirement
each_requirement = listed (values requirements) requirement_level (elim [ effective.Requirement.TheVariants.High ↦ refl | _ ↦ refl ])

abbrev pub each_exploit_maturity : Finite effective.ExploitMaturity.ExploitMaturity
each_exploit_maturity = listed (values exploit_maturities) eq5 (elim [ effective.ExploitMaturity.TheVariants.Attacked ↦ refl | _ ↦ refl ])

-- the values of the metrics of each group
abbrev pub each_eq1 : Finite Eq1Values
each_eq1 = three each_attack_vector each_privileges_required each_user_interaction

abbrev pub each_eq2 : Finite Eq2Values
each_eq2 = two each_attack_complexity each_attack_requirements

abbrev pub each_eq3_eq6 : Finite Eq3Eq6Values
each_eq3_eq6 = six each_vulnerable_impact each_requirement

abbrev pub each_eq4 : Finite Eq4Values
each_eq4 = three each_subsequent_impact each_safety_impact each_safety_impact

-- the classes of a group: which numbers are one, and tests of that and of all of them
pub record Classes {C : Type 0} (IsClass : C → Type 0) : Type 0 where
  pub every : (C → Bool) → Bool
  pub each : (p : C → Bool) → every p ≡ true → (class : C) → IsClass class → p class ≡ true
  pub is_class : C → Bool
  pub reports : (class : C) → is_class class ≡ true → IsClass class

-- the classes of two groups together
abbrev pub both : {A B : Type 0} {IsA : A → Type 0} {IsB : B → Type 0} → Classes IsA → Classes IsB → Classes (λ (v : A × B). IsA v.0 × IsB v.1)
both a b = record {
  every = λ p. a.every (λ x. b.every (λ y. p (x, y)));
  each = λ p h v is. b.each (λ y. p (v.0, y)) (a.each (λ x. b.every (λ y. p (x, y))) h v.0 is.0) v.1 is.1;
  is_class = λ v. a.is_class v.0 && b.is_class v.1;
  reports = λ v h. let parts = and_parts (a.is_class v.0) (b.is_class v.1) h in (a.reports v.0 parts.0, b.reports v.1 parts.1);
}

-- a class is a number up to a limit
abbrev pub up_to : ℕ → ℕ → Type 0
up_to limit class = class ≤ limit

abbrev pub numbers : (limit : ℕ) → Classes (up_to limit)
numbers limit = record {
  every = λ p. agree_below p (λ _. true) (suc limit);
  each = λ p h class is. agree_below_at p (λ _. true) (suc limit) class h (omega (arith, is));
  is_class = λ class. leb class limit;
  reports = λ class h. leb-true class limit h;
}

-- the pairs of EQ3 and EQ6, of which 2,0 is none
abbrev pub IsPairOf : ℕ × ℕ → Type 0
IsPairOf class = IsPair class.0 class.1

abbrev pub is_none : ℕ × ℕ → Bool
is_none class = (class.0 == 2) && (class.1 == 0)

pub not_none : (class3 class6 : ℕ) (b : Bool) → (class3 ≡ 2 → class6 ≡ 1) → (((class3 == 2) && (class6 == 0)) || b) ≡ true → b ≡ true
not_none class3 class6 b rule h = grind (arith, nat_tests)

pub second : (class3 class6 : ℕ) → class6 ≤ 1 → not ((class3 == 2) && (class6 == 0)) ≡ true → class3 ≡ 2 → class6 ≡ 1
second class3 class6 limit h two = grind (arith, nat_tests)

abbrev pub pairs : Classes IsPairOf
pairs =
    let all = both (numbers 2) (numbers 1) in
    record {
      every = λ p. all.every (λ class. is_none class || p class);
      each = λ p h class is. not_none class.0 class.1 (p class) is.both (all.each (λ class. is_none class || p class) h class (is.eq3, is.eq6));
      is_class = λ class. all.is_class class && not (is_none class);
      reports = λ class h.
          let parts = and_parts (all.is_class class) (not (is_none class)) h in
          let limits = all.reports class parts.0 in
          record { eq3 = limits.0; eq6 = limits.1; both = second class.0 class.1 limits.1 parts.1 };
    }
