-- Which error says which reason for a rejection.
use Rattle.std.specs.Prelude.{◌≡◌, true, ◌⊎◌, List, ℕ, Option, Some}
use Rattle.std.specs.String.{string_bytes}
use Rattle.cvss_base.specs.declared.error.Error.{Error}
use Rattle.cvss_base.specs.declared.error.Error.TheVariants.{InvalidComponent, InvalidPrefix, UnsupportedVersion, InvalidSeverity, UnknownMetric, OutOfMemory}
use Rattle.cvss_base.specs.Rejection.{Rejection, BadComponent, WrongPrefix, WrongVersion, UnknownName, carries_text}

-- the reason that an error says, where `own` says it of the errors that name a version's metrics
abbrev pub reason_reported : {K : Type 0} → (Error → Option (Rejection K)) → Error → Option (Rejection K)
reason_reported own (InvalidComponent component) = Some (BadComponent (string_bytes component))
reason_reported own (InvalidPrefix prefix) = Some (WrongPrefix (string_bytes prefix))
reason_reported own (UnsupportedVersion version) = Some (WrongVersion (string_bytes version))
reason_reported own (UnknownMetric name) = Some (UnknownName (string_bytes name))
reason_reported own error = own error

-- the error says the reason, or that there was no memory for the text that the reason carries
abbrev pub Reports : {K : Type 0} → (Error → Option (Rejection K)) → Rejection K → Error → Type 0
Reports own reason error =
    (reason_reported own error ≡ Some reason) ⊎ ((error ≡ OutOfMemory) × (carries_text reason ≡ true))

-- the error says the first reason
pub record ReportsFirst {K : Type 0} (own : Error → Option (Rejection K)) (IsFirst : Rejection K → Type 0) (error : Error) : Type 0 where
  pub reason : Rejection K
  pub first : IsFirst reason
  pub reported : Reports own reason error

-- the error says that no rating has this name, or that there was no memory for the name
abbrev pub ReportsNoSeverity : List ℕ → Error → Type 0
ReportsNoSeverity text (InvalidSeverity name) = string_bytes name ≡ text
ReportsNoSeverity text OutOfMemory = Unit {0}
ReportsNoSeverity text _ = ⊥
