-- The values of the code are those of the table, and no class has a smaller value than its next lower ones.
use Rattle.std.proofs.Common.{◌≡◌, ℕ, ◌≤◌, Bool, true, false, ◌&&◌, ◌==◌, leb, slice_index, Option, Some, None, refl, arith, ap}
use Rattle.std.specs.Option.{option_and_then}
use Rattle.std.proofs.lemmas.Bool.Decides.{nat_tests}
use Rattle.cvss_score.specs.v4.Classes.{IsMacroVector}
use Rattle.cvss_score.specs.v4.Gap.{eq1_next, eq2_next, eq3_eq6_next, eq4_next, eq5_next}
use Rattle.cvss_score.specs.v4.private.Places.{place_of}
use Rattle.cvss_score.specs.v4.Values.{rows, listed_value, IsListed}
use Rattle.cvss_score.specs.declared.v4.scoring.classes.MacroVector.{MacroVector}
use Rattle.cvss_score.specs.declared.v4.scoring.values.TheConstants.{VALUES}
use Rattle.cvss_score.proofs.v4_lemmas.TestLemmas.{Classes, both, numbers, IsPairOf, pairs}

-- the numbers of a class, with EQ3 and EQ6 together
abbrev Numbers : Type 0
Numbers = ℕ × (ℕ × ((ℕ × ℕ) × (ℕ × ℕ)))

abbrev class_of : Numbers → MacroVector
class_of v = record { eq1 = v.0; eq2 = v.1.0; eq3 = v.1.1.0.0; eq4 = v.1.1.1.0; eq5 = v.1.1.1.1; eq6 = v.1.1.0.1 }

abbrev all_numbers : Classes (λ (v : Numbers). (v.0 ≤ 2) × ((v.1.0 ≤ 1) × (IsPairOf v.1.1.0 × ((v.1.1.1.0 ≤ 2) × (v.1.1.1.1 ≤ 2)))))
all_numbers = both (numbers 2) (both (numbers 1) (both pairs (both (numbers 2) (numbers 2))))

-- a test that is true for all classes is true for each
module _ (p : MacroVector → Bool) where
  abbrev pub all_classes : Bool
  all_classes = all_numbers.every (λ v. p (class_of v))

  pub each_class : all_classes ≡ true → (m : MacroVector) → IsMacroVector m → p m ≡ true
  each_class h m is =
      all_numbers.each (λ v. p (class_of v)) h (m.eq1, (m.eq2, ((m.eq3, m.eq6), (m.eq4, m.eq5))))
      (is.eq1, (is.eq2, (record { eq3 = is.eq3; eq6 = is.eq6; both = is.eq3_eq6 }, (is.eq4, is.eq5))))

-- the value is there, and is this one, from 1 to 100
abbrev is_listed : Option ℕ → ℕ → Bool
is_listed None value = false
is_listed (Some listed) value = (listed == value) && (leb 1 value && leb value 100)

listed : (o : Option ℕ) (value : ℕ) → is_listed o value ≡ true → IsListed o value
listed None value h = cc
listed (Some v) value h =
    let same : v ≡ value = grind (arith, nat_tests) in
    record { is_value = ap Some same; from_one = grind (arith, nat_tests); to_hundred = grind (arith, nat_tests) }

-- of each class the code has the value
abbrev agrees : MacroVector → Bool
agrees m = is_listed (listed_value m) (slice_index VALUES (place_of m))

all_agree : all_classes agrees ≡ true
unfolding rows listed_value
all_agree = refl

pub value_at_place : (m : MacroVector) → IsMacroVector m → IsListed (listed_value m) (slice_index VALUES (place_of m))
value_at_place m is_class =
    listed (listed_value m) (slice_index VALUES (place_of m)) (each_class agrees all_agree m is_class)

-- a next lower value is from 1 to the value
pub record Falls (value lower : ℕ) : Type 0 where
  pub from_one : 1 ≤ lower
  pub to_value : lower ≤ value

-- so it is of what is there, as a test
abbrev falls : Option ℕ → Option ℕ → Bool
falls _ None = true
falls None (Some lower) = false
falls (Some value) (Some lower) = leb 1 lower && leb lower value

falling : (here next : Option ℕ) (value lower : ℕ) → falls here next ≡ true → here ≡ Some value → next ≡ Some lower
    → Falls value lower
falling here None value lower h is_value is_lower = cc
falling None (Some l) value lower h is_value is_lower = cc
falling (Some v) (Some l) value lower h is_value is_lower =
    let same_value : v ≡ value = cc in
    let same_lower : l ≡ lower = cc in
    record { from_one = grind (arith, nat_tests); to_value = grind (arith, nat_tests) }

-- a next lower value falls from that of each class
module _ (next : MacroVector → Option MacroVector) where
  abbrev falls_at : MacroVector → Bool
  falls_at m = falls (listed_value m) (option_and_then listed_value (next m))

  abbrev pub Descends : Type 0
  Descends = all_classes falls_at ≡ true

  pub falls_from : Descends → (m : MacroVector) → IsMacroVector m → (value lower : ℕ)
      → listed_value m ≡ Some value → option_and_then listed_value (next m) ≡ Some lower → Falls value lower
  falls_from down m is_class value lower =
      falling (listed_value m) (option_and_then listed_value (next m)) value lower (each_class falls_at down m is_class)

-- so it is in each group
pub record AllDescend : Type 0 where
  pub eq1 : Descends eq1_next
  pub eq2 : Descends eq2_next
  pub eq3_eq6 : Descends eq3_eq6_next
  pub eq4 : Descends eq4_next
  pub eq5 : Descends eq5_next

pub all_descend : AllDescend
unfolding rows listed_value
all_descend = record { eq1 = refl; eq2 = refl; eq3_eq6 = refl; eq4 = refl; eq5 = refl }
