-- The groups of metrics, their next lower classes and their depths: CVSS v4.0 specification, section 8.2.
use Rattle.std.specs.Prelude.{ℕ, zero, suc, ◌+◌, nat_lt, if◌then◌else◌, List, [], ◌∷◌, Option, Some, None, option_and_then, ℤ, pos}
use Rattle.cvss_score.specs.declared.v4.scoring.classes.MacroVector.{MacroVector}
use Rattle.cvss_score.specs.declared.v4.scoring.effective.Effective.{Effective}
use Rattle.cvss_score.specs.v4.Classes.{macro_vector}
use Rattle.cvss_score.specs.v4.Distance.{eq1_distance, eq2_distance, eq3_eq6_distance, eq4_distance}
use Rattle.cvss_score.specs.v4.Values.{listed_value, class_value}

-- the class whose number is one higher, unless the number is the last of its equivalence class
abbrev pub next_of : ℕ → (ℕ → MacroVector) → ℕ → Option MacroVector
next_of last with_number number = if nat_lt number last then Some (with_number (number + 1)) else None

-- EQ1, EQ2, EQ4 and EQ5, of which the last numbers are 2, 1, 2 and 2
abbrev pub eq1_next : MacroVector → Option MacroVector
eq1_next m = next_of 2 (λ number. record m { eq1 = number }) m.eq1

abbrev pub eq2_next : MacroVector → Option MacroVector
eq2_next m = next_of 1 (λ number. record m { eq2 = number }) m.eq2

abbrev pub eq4_next : MacroVector → Option MacroVector
eq4_next m = next_of 2 (λ number. record m { eq4 = number }) m.eq4

abbrev pub eq5_next : MacroVector → Option MacroVector
eq5_next m = next_of 2 (λ number. record m { eq5 = number }) m.eq5

-- of two classes the one with the larger value, of two with equal values the first
abbrev pub of_larger_value : MacroVector → MacroVector → MacroVector
of_larger_value first second = if nat_lt (class_value first) (class_value second) then second else first

-- the next lower pair of EQ3 and EQ6, of two pairs that with the larger value: the pairs are 0,0, 0,1, 1,0, 1,1
-- and 2,1
abbrev pub next_of_pair : (ℕ → ℕ → MacroVector) → ℕ → ℕ → Option MacroVector
next_of_pair of_pair zero zero = Some (of_larger_value (of_pair 0 1) (of_pair 1 0))
next_of_pair of_pair zero (suc _) = Some (of_pair 1 1)
next_of_pair of_pair (suc zero) zero = Some (of_pair 1 1)
next_of_pair of_pair (suc zero) (suc _) = Some (of_pair 2 1)
next_of_pair of_pair (suc (suc _)) _ = None

-- EQ3 with EQ6
abbrev pub eq3_eq6_next : MacroVector → Option MacroVector
eq3_eq6_next m = next_of_pair (λ class3 class6. record m { eq3 = class3; eq6 = class6 }) m.eq3 m.eq6

-- the depths of the classes 0, 1 and 2 of EQ1, 0 and 1 of EQ2, and 0, 1 and 2 of EQ4, in tenths
abbrev pub eq1_depth : ℕ → ℕ
eq1_depth = elim [ zero ↦ 1 | suc zero ↦ 4 | suc (suc _) ↦ 5 ]

abbrev pub eq2_depth : ℕ → ℕ
eq2_depth = elim [ zero ↦ 1 | suc _ ↦ 2 ]

abbrev pub eq4_depth : ℕ → ℕ
eq4_depth = elim [ zero ↦ 6 | suc zero ↦ 5 | suc (suc _) ↦ 4 ]

-- the depths of the pairs 0,0, 0,1, 1,0, 1,1 and 2,1 of EQ3 with EQ6
abbrev pub eq3_eq6_depth : ℕ → ℕ → ℕ
eq3_eq6_depth zero zero = 7
eq3_eq6_depth zero (suc _) = 6
eq3_eq6_depth (suc zero) _ = 8
eq3_eq6_depth (suc (suc _)) _ = 10

-- what a group of metrics brings to the score: the next lower class, the distance and the depth
pub record Group : Type 0 where
  pub next : Option MacroVector
  pub distance : ℤ
  pub depth : ℕ

-- the value of the next lower class
abbrev pub next_lower : Group → Option ℕ
next_lower group = option_and_then listed_value group.next

-- EQ1: AV, PR and UI
abbrev pub eq1_group : Effective → Group
eq1_group v = let m = macro_vector v in record { next = eq1_next m; distance = eq1_distance v; depth = eq1_depth m.eq1 }

-- EQ2: AC and AT
abbrev pub eq2_group : Effective → Group
eq2_group v = let m = macro_vector v in record { next = eq2_next m; distance = eq2_distance v; depth = eq2_depth m.eq2 }

-- EQ3 with EQ6: VC, VI, VA, CR, IR and AR
abbrev pub eq3_eq6_group : Effective → Group
eq3_eq6_group v = let m = macro_vector v in record { next = eq3_eq6_next m; distance = eq3_eq6_distance v; depth = eq3_eq6_depth m.eq3 m.eq6 }

-- EQ4: SC, SI and SA
abbrev pub eq4_group : Effective → Group
eq4_group v = let m = macro_vector v in record { next = eq4_next m; distance = eq4_distance v; depth = eq4_depth m.eq4 }

-- EQ5: E, of which each class has one value, at no distance
abbrev pub eq5_group : Effective → Group
eq5_group v = record { next = eq5_next (macro_vector v); distance = pos 0; depth = 1 }

-- the groups of metrics
abbrev pub groups : Effective → List Group
groups v = eq1_group v ∷ eq2_group v ∷ eq3_eq6_group v ∷ eq4_group v ∷ eq5_group v ∷ []
