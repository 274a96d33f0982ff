-- Texts of vectors, and the JSON values that stand for them.
use Rattle.std.specs.Prelude.{◌≡◌, ◌≢◌, ℕ, List, ⊤}
use Rattle.cvss.specs.Answers.{text_of}
use Rattle.cvss.specs.Dispatch.{DenotesCvss, IsFirstRejectionCvss, cvss_reason}
use Rattle.cvss.specs.ErrorType.TheVariants.{OutOfMemory as LacksMemory}
use Rattle.cvss.specs.Json.{IsNoString, IsStringOf, StandsFor}
use Rattle.cvss.specs.Reported.{ReportsFirst}
use Rattle.cvss.specs.declared.json.JsonError.{JsonError}
use Rattle.cvss.specs.declared.json.JsonError.TheVariants.{NotAString, Invalid, OutOfMemory}
use Rattle.cvss.specs.CvssType.{Cvss}
use Rattle.serde_json.specs.Data.{Data, string}

-- the value is the string of the canonical text of what the text denotes
pub record IsValueOf (text : List ℕ) (value : Data) : Type 0 where
  pub vector : Cvss
  pub denoted : DenotesCvss text vector
  pub is : value ≡ string (text_of vector)

-- the text is the canonical text of what the value stands for
pub record IsTextOf (value : Data) (text : List ℕ) : Type 0 where
  pub vector : Cvss
  pub stands : StandsFor DenotesCvss value vector
  pub is : text ≡ text_of vector

-- the text denotes a vector, whose canonical text is the other
pub record IsCanonicalText (text other : List ℕ) : Type 0 where
  pub vector : Cvss
  pub denoted : DenotesCvss text vector
  pub is : other ≡ text_of vector

-- the error says the first reason why the text denotes no vector; or there was no memory
abbrev pub ReportsNoText : List ℕ → JsonError → Type 0
ReportsNoText text NotAString = ⊥
ReportsNoText text (Invalid error) = ReportsFirst cvss_reason (IsFirstRejectionCvss text) error × (error ≢ LacksMemory)
ReportsNoText text OutOfMemory = ⊤

-- the error says that the value is no string, or the first reason why its text denotes no vector; or there
-- was no memory
abbrev pub ReportsNoValue : Data → JsonError → Type 0
ReportsNoValue value NotAString = IsNoString value
ReportsNoValue value (Invalid error) =
    IsStringOf (λ text. ReportsFirst cvss_reason (IsFirstRejectionCvss text) error) value × (error ≢ LacksMemory)
ReportsNoValue value OutOfMemory = ⊤
