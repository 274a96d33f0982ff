-- Which groups of metrics a score rests on: CVSS v4.0 specification, section 1.3.
use Rattle.std.specs.Prelude.{◌≡◌, ℕ, Bool, true, false, ℤ, List, ◌++◌, codes}
use Rattle.std.specs.String.{string_bytes}
use Rattle.cvss_base.specs.declared.error.Error.{Error}
use Rattle.cvss_base.specs.declared.error.Error.TheVariants.{InvalidNomenclatureV4, OutOfMemory}
use Rattle.cvss_base.specs.Tenths.{score_text}
use Rattle.cvss_score.specs.declared.v4.nomenclature.Nomenclature.{Nomenclature}
use Rattle.cvss_score.specs.declared.v4.nomenclature.Nomenclature.TheVariants.{CvssB, CvssBE, CvssBT, CvssBTE}

-- the nomenclature's name
abbrev pub text_of : Nomenclature → List ℕ
text_of CvssB = codes "CVSS-B"
text_of CvssBE = codes "CVSS-BE"
text_of CvssBT = codes "CVSS-BT"
text_of CvssBTE = codes "CVSS-BTE"

-- the nomenclature by whether there are threat metrics, and environmental ones
abbrev pub nomenclature_with : Bool → Bool → Nomenclature
nomenclature_with false false = CvssB
nomenclature_with false true = CvssBE
nomenclature_with true false = CvssBT
nomenclature_with true true = CvssBTE

-- a score, a count of 10^-24, and its nomenclature in parentheses
abbrev pub named_score_text : ℤ → Nomenclature → List ℕ
named_score_text value nomenclature = score_text value ++ codes " (" ++ text_of nomenclature ++ codes ")"

-- the error says that no nomenclature has this name, or that there was no memory for the name
abbrev pub ReportsNoNomenclature : List ℕ → Error → Type 0
ReportsNoNomenclature text (InvalidNomenclatureV4 nomenclature) = string_bytes nomenclature ≡ text
ReportsNoNomenclature text OutOfMemory = Unit {0}
ReportsNoNomenclature text _ = ⊥
