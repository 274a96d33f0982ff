-- A score and its severity as two numbers.
use Rattle.std.specs.Prelude.{◌≡◌, ℤ, pos, Option, Some, None}
use Rattle.cvss_vector.specs.declared.evaluation.Rated.{Rated}
use Rattle.cvss_ffi.specs.Scores.{nothing, severity_number}

pub record AreNumbersOf (rated : Rated) (tenths severity : ℤ) : Type 0 where
  pub tenths_is : tenths ≡ pos rated.tenths
  pub severity_is : severity ≡ severity_number rated.severity

abbrev pub AreNumbersIf : Option Rated → ℤ → ℤ → Type 0
AreNumbersIf (Some rated) tenths severity = AreNumbersOf rated tenths severity
AreNumbersIf None tenths severity = (tenths ≡ nothing) × (severity ≡ nothing)
