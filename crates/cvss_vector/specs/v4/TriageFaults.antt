-- The first fault of overrides and texts, and the error that says it.
use Rattle.std.specs.Prelude.{◌≡◌, ◌⊎◌, ℕ, ◌<◌, true, Some, List, length, ◌++◌, codes}
use Rattle.std.specs.Fmt.{decimal}
use Rattle.cvss_base.specs.ErrorText.{error_text}
use Rattle.cvss_base.specs.declared.error.Error.{Error}
use Rattle.cvss_base.specs.declared.v4.MetricType.{MetricType}
use Rattle.cvss_vector.specs.v4.Overriding.{Objection, OfOtherGroup, OfText, HasNoObjectionBefore, IsFirstObjection}
use Rattle.cvss_base.specs.Rejection.{Rejection, carries_text, piece_at, IsFirstRejectionAfter}
use Rattle.cvss_base.specs.Reported.{reason_reported}
use Rattle.cvss_base.specs.V4Types.{v4_reason}
use Rattle.cvss_vector.specs.v4.Vector.{v4}
use Rattle.cvss_vector.specs.declared.v4.triage.error.TriageError.{TriageError}
use Rattle.cvss_vector.specs.declared.v4.triage.error.TriageError.TheVariants.{Override, NotEnvironmental, Text, OutOfMemory}

-- what is wrong: something with the override at a place, or that the text at a place is no vector
pub data Fault : Type 0 where
  InOverride : ℕ → Objection → Fault
  InText : ℕ → Rejection MetricType → Fault

-- no text before this place is rejected
pub record HasNoRejectionBefore (texts : List (List ℕ)) (place : ℕ) : Type 0 where
  pub none : (earlier : ℕ) (reason : Rejection MetricType) → earlier < place → ¬ (IsFirstRejectionAfter v4 (piece_at texts earlier) reason)

-- the first text that is rejected, and why
pub record IsFirstRejected (texts : List (List ℕ)) (place : ℕ) (reason : Rejection MetricType) : Type 0 where
  pub within : place < length texts
  pub is : IsFirstRejectionAfter v4 (piece_at texts place) reason
  pub earlier : HasNoRejectionBefore texts place

-- the first fault: overrides go before texts
abbrev pub IsFirstFault : List (List ℕ) → List (List ℕ) → Fault → Type 0
IsFirstFault texts overrides (InOverride place objection) = IsFirstObjection overrides place objection
IsFirstFault texts overrides (InText place reason) =
    HasNoObjectionBefore overrides (length overrides) × IsFirstRejected texts place reason

-- the rejection that an error of the library says is this one
pub record ReportsReason (reason : Rejection MetricType) (error : Error) : Type 0 where
  pub is : reason_reported v4_reason error ≡ Some reason

-- the error says the fault; or there was no memory, of which an override needs none unless its rejection
-- carries text
abbrev pub ReportsFault : Fault → TriageError → Type 0
ReportsFault (InOverride place OfOtherGroup) reported = reported ≡ NotEnvironmental place
ReportsFault (InOverride place (OfText reason)) reported =
    ((error : Error) × (reported ≡ Override place error) × ReportsReason reason error)
    ⊎ ((reported ≡ OutOfMemory) × (carries_text reason ≡ true))
ReportsFault (InText place reason) reported =
    ((error : Error) × (reported ≡ Text place error) × ReportsReason reason error) ⊎ (reported ≡ OutOfMemory)

-- the error says the first fault
pub record ReportsFirstFault (texts overrides : List (List ℕ)) (reported : TriageError) : Type 0 where
  pub fault : Fault
  pub first : IsFirstFault texts overrides fault
  pub reports : ReportsFault fault reported

-- the error says the first text that is rejected, and why
pub record ReportsFirstRejected (texts : List (List ℕ)) (reported : TriageError) : Type 0 where
  pub place : ℕ
  pub reason : Rejection MetricType
  pub first : IsFirstRejected texts place reason
  pub reports : ReportsFault (InText place reason) reported

-- the error's text
abbrev pub triage_error_text : TriageError → List ℕ
triage_error_text (Override index error) = codes "override " ++ decimal index ++ codes ": " ++ error_text error
triage_error_text (NotEnvironmental index) = codes "override " ++ decimal index ++ codes ": no environmental CVSSv4 metric"
triage_error_text (Text index error) = codes "text " ++ decimal index ++ codes ": " ++ error_text error
triage_error_text OutOfMemory = codes "out of memory"
