-- The values of the classes, in tenths: CVSS v4.0 specification, section 8.2 (MacroVector lookup).
use Rattle.std.specs.Prelude.{◌≡◌, ℕ, ◌+◌, ◌*◌, ◌≤◌, ◌==◌, List, [], ◌∷◌, Option, Some, slice_get, find, option_and_then, unwrap_or}
use Rattle.cvss_score.specs.declared.v4.scoring.classes.MacroVector.{MacroVector}
use Rattle.cvss_score.specs.declared.v4.scoring.effective.Effective.{Effective}
use Rattle.cvss_score.specs.v4.Classes.{macro_vector}

-- the numbers EQ1, EQ2, EQ3 and EQ6 as the digits of one
abbrev pub digits : ℕ → ℕ → ℕ → ℕ → ℕ
digits class1 class2 class3 class6 = ((class1 * 10 + class2) * 10 + class3) * 10 + class6

-- the values of EQ5 = 0, 1 and 2
abbrev pub three : ℕ → ℕ → ℕ → List ℕ
three attacked proof_of_concept unreported = attacked ∷ proof_of_concept ∷ unreported ∷ []

-- the classes with these digits: the values of EQ4 = 0, 1 and 2
abbrev pub listed : ℕ → ℕ → ℕ → ℕ → List ℕ → List ℕ → List ℕ → ℕ × List (List ℕ)
listed class1 class2 class3 class6 safety high low = (digits class1 class2 class3 class6, safety ∷ high ∷ low ∷ [])

-- the table
unfoldable pub rows : List (ℕ × List (List ℕ))
rows =
    listed 0 0 0 0 (three 100 98 95) (three 100 93 91) (three 93 89 81)
    ∷ listed 0 0 0 1 (three 99 95 92) (three 96 87 81) (three 90 80 68)
    ∷ listed 0 0 1 0 (three 98 95 90) (three 93 89 81) (three 88 78 69)
    ∷ listed 0 0 1 1 (three 95 92 84) (three 92 81 65) (three 80 70 48)
    ∷ listed 0 0 2 1 (three 92 82 72) (three 79 69 50) (three 69 55 27)
    ∷ listed 0 1 0 0 (three 99 95 92) (three 95 90 84) (three 92 82 72)
    ∷ listed 0 1 0 1 (three 97 92 85) (three 91 83 71) (three 81 71 53)
    ∷ listed 0 1 1 0 (three 95 92 85) (three 92 80 70) (three 84 71 50)
    ∷ listed 0 1 1 1 (three 93 85 73) (three 82 72 59) (three 70 52 30)
    ∷ listed 0 1 2 1 (three 86 75 52) (three 71 52 29) (three 63 29 17)
    ∷ listed 1 0 0 0 (three 98 94 91) (three 94 86 77) (three 87 74 63)
    ∷ listed 1 0 0 1 (three 95 87 81) (three 89 74 64) (three 75 63 49)
    ∷ listed 1 0 1 0 (three 94 88 76) (three 86 74 59) (three 72 57 52)
    ∷ listed 1 0 1 1 (three 89 77 67) (three 76 58 50) (three 57 52 25)
    ∷ listed 1 0 2 1 (three 83 70 54) (three 65 58 26) (three 53 21 13)
    ∷ listed 1 1 0 0 (three 95 88 76) (three 90 75 61) (three 77 68 52)
    ∷ listed 1 1 0 1 (three 90 76 70) (three 77 62 53) (three 66 59 30)
    ∷ listed 1 1 1 0 (three 89 76 62) (three 74 57 47) (three 61 57 24)
    ∷ listed 1 1 1 1 (three 78 67 58) (three 59 57 23) (three 52 29 16)
    ∷ listed 1 1 2 1 (three 71 59 30) (three 58 26 15) (three 23 13 6)
    ∷ listed 2 0 0 0 (three 93 86 75) (three 86 74 56) (three 70 52 40)
    ∷ listed 2 0 0 1 (three 87 72 58) (three 74 61 34) (three 54 40 22)
    ∷ listed 2 0 1 0 (three 85 74 62) (three 72 55 46) (three 53 34 19)
    ∷ listed 2 0 1 1 (three 75 55 51) (three 57 41 19) (three 36 19 8)
    ∷ listed 2 0 2 1 (three 64 51 20) (three 47 21 11) (three 24 9 4)
    ∷ listed 2 1 0 0 (three 88 73 60) (three 73 59 41) (three 54 45 20)
    ∷ listed 2 1 0 1 (three 75 53 50) (three 55 40 20) (three 43 22 11)
    ∷ listed 2 1 1 0 (three 75 58 40) (three 61 48 20) (three 46 17 8)
    ∷ listed 2 1 1 1 (three 55 45 21) (three 51 18 9) (three 18 7 2)
    ∷ listed 2 1 2 1 (three 53 24 14) (three 24 12 5) (three 10 3 1)
    ∷ []

-- the value of six numbers, where there is such a class
unfoldable pub listed_value : MacroVector → Option ℕ
listed_value m =
    option_and_then (λ row. option_and_then (λ values. slice_get values m.eq5) (slice_get row.1 m.eq4))
    (find (λ row. row.0 == digits m.eq1 m.eq2 m.eq3 m.eq6) rows)

-- the value of six numbers, each class that can arise having one
abbrev pub class_value : MacroVector → ℕ
class_value m = unwrap_or (listed_value m) 0

-- the value of the class of effective values
abbrev pub table_value : Effective → ℕ
table_value v = class_value (macro_vector v)

-- a value of the table is there, and is this one, which is from 1 to 100
pub record IsListed (listed : Option ℕ) (value : ℕ) : Type 0 where
  pub is_value : listed ≡ Some value
  pub from_one : 1 ≤ value
  pub to_hundred : value ≤ 100
