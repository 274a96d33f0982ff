-- JSON values that stand for vectors, severities and nomenclatures: RFC 8259, sections 3 and 7.
use Rattle.std.specs.Prelude.{◌≡◌, ◌≢◌, ℕ, List, codes}
use Rattle.cvss_base.specs.ErrorText.{error_text}
use Rattle.cvss_base.specs.declared.error.Error.{Error}
use Rattle.cvss.specs.declared.json.JsonError.{JsonError}
use Rattle.cvss.specs.declared.json.JsonError.TheVariants.{NotAString, Invalid, OutOfMemory}
use Rattle.serde_json.specs.Data.{Data, string}

-- the value is the string of a text of which this holds
pub record IsStringOf (Holds : List ℕ → Type 0) (value : Data) : Type 0 where
  pub text : List ℕ
  pub is_string : value ≡ string text
  pub holds : Holds text

-- the value stands for x: it is the string of a text that denotes x
abbrev pub StandsFor : {X : Type 0} → (List ℕ → X → Type 0) → Data → X → Type 0
StandsFor Denotes value x = IsStringOf (λ text. Denotes text x) value

-- the value is no string
abbrev pub IsNoString : Data → Type 0
IsNoString value = (text : List ℕ) → value ≢ string text

-- what the error says is so: the value is no string, or its text is rejected for this reason, or
-- the text is refused and there was no memory to say the reason
abbrev pub ReportsWhy : (List ℕ → Error → Type 0) → Data → JsonError → Type 0
ReportsWhy Rejects value NotAString = IsNoString value
ReportsWhy Rejects value (Invalid error) = IsStringOf (λ text. Rejects text error) value
ReportsWhy Rejects value OutOfMemory = IsStringOf (λ text. Rejects text Error.OutOfMemory) value

-- the error by which a reason that a text is rejected for is reported
abbrev pub reported_as : Error → JsonError
reported_as Error.OutOfMemory = OutOfMemory
reported_as error = Invalid error

-- the error's text
abbrev pub json_error_text : JsonError → List ℕ
json_error_text NotAString = codes "not a JSON string"
json_error_text (Invalid error) = error_text error
json_error_text OutOfMemory = codes "out of memory"
