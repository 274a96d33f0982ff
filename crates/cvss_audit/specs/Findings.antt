-- What is found of the vector at a location of a document.
use Rattle.std.specs.Prelude.{◌≡◌, ◌≢◌, ◌||◌, ◌&&◌, ◌+◌, if◌then◌else◌, length, not, Bool, true, false, ℕ, List, [], ◌∷◌, codes, is_some, map, option_map, Option, Some, None, ⊤, string_bytes}
use Rattle.cvss_base.specs.ErrorText.{error_text}
use Rattle.cvss_base.specs.Reported.{ReportsFirst}
use Rattle.cvss_base.specs.declared.severity.Severity.{Severity}
use Rattle.cvss_base.specs.declared.error.Error.{Error}
use Rattle.cvss_base.specs.declared.error.Error.TheVariants.{OutOfMemory}
use Rattle.cvss_vector.specs.Answers.{HasScore}
use Rattle.cvss_vector.specs.Complete.{first_missing}
use Rattle.cvss_vector.specs.Dispatch.{DenotesCvss, IsFirstRejectionCvss, cvss_reason}
use Rattle.cvss_vector.specs.Evaluation.{IsEvaluation}
use Rattle.cvss_vector.specs.declared.evaluation.Evaluation.{Evaluation}
use Rattle.cvss_vector.specs.declared.evaluation.Rated.{Rated}
use Rattle.cvss_vector.specs.declared.vector.Cvss.{Cvss}
use Rattle.cvss_report.specs.Tallies.{at_most}
use Rattle.cvss_audit.specs.Differences.{AreDifferencesAt, Difference, difference_view}
use Rattle.cvss_audit.specs.Inputs.{Input}
use Rattle.cvss_audit.specs.Locations.{Location}
use Rattle.cvss_audit.specs.declared.written.finding.Finding as code

-- a vector, and where the document disagrees with it; or why there is none
pub data Finding : Type 0 where
  vector : Cvss → List Difference → Finding
  rejected : List ℕ → Finding

-- the text denotes the vector, with which the document disagrees here
pub record IsVectorAt (location : Location) (text : List ℕ) (cvss : Cvss) (differences : List Difference) : Type 0 where
  pub denoted : DenotesCvss text cvss
  pub are_differences : AreDifferencesAt cvss location differences

-- the text denotes no vector, for this first reason
pub record IsReason (text reason : List ℕ) : Type 0 where
  pub error : Error
  pub first : ReportsFirst cvss_reason (IsFirstRejectionCvss text) error
  pub no_want : error ≢ OutOfMemory
  pub is : reason ≡ error_text error

-- this is found at the location, where this text is, or no string
abbrev pub IsFoundFor : Location → Option (List ℕ) → Finding → Type 0
IsFoundFor location (Some text) (vector cvss differences) = IsVectorAt location text cvss differences
IsFoundFor location (Some text) (rejected reason) = IsReason text reason
IsFoundFor location None (vector cvss differences) = ⊥
IsFoundFor location None (rejected reason) = reason ≡ codes "not a string"

abbrev pub IsFinding : Location → Finding → Type 0
IsFinding location finding = IsFoundFor location location.2 finding

-- nothing differs
abbrev pub nothing_differs : List Difference → Bool
nothing_differs [] = true
nothing_differs (difference ∷ differences) = false

-- the vector may be as it is: it lacks no base metric, or may lack some
abbrev pub is_allowed : Input → Cvss → Bool
is_allowed input cvss = input.allow_incomplete || not (is_some (first_missing cvss))

-- there is a vector, which may be as it is, and nothing differs
abbrev pub agrees : Input → Finding → Bool
agrees input (vector cvss differences) = nothing_differs differences && is_allowed input cvss
agrees input (rejected reason) = false

-- the score and the severity of a vector with all metrics in it, if it may be as it is
abbrev pub IsRatedIf : Bool → Cvss → Option Rated → Type 0
IsRatedIf true cvss rated = (scores : Evaluation) × IsEvaluation cvss scores × (rated ≡ Some scores.overall)
IsRatedIf false cvss rated = rated ≡ None

-- neither has what is rejected, nor a vector that lacks base metrics and may not
abbrev pub IsRatedIn : Input → Finding → Option Rated → Type 0
IsRatedIn input (vector cvss differences) rated = IsRatedIf (is_allowed input cvss) cvss rated
IsRatedIn input (rejected reason) rated = rated ≡ None

abbrev pub tenths_of : Option Rated → Option ℕ
tenths_of rated = option_map (λ rated. rated.tenths) rated

abbrev pub severity_of : Option Rated → Option Severity
severity_of rated = option_map (λ rated. rated.severity) rated

-- how many lines for people there are about it: one for each difference, and one where it lacks base metrics and may not;
-- one if it is rejected
abbrev pub lines_about : Input → Finding → ℕ
lines_about input (vector cvss differences) = at_most ((if is_allowed input cvss then 0 else 1) + length differences)
lines_about input (rejected reason) = 1

-- the vector, if there is one, has a score
abbrev pub HasScoreIn : Finding → Type 0
HasScoreIn (vector cvss differences) = HasScore cvss
HasScoreIn (rejected reason) = ⊤

-- a finding, as the code holds it
abbrev pub finding_view : code.Finding → Finding
finding_view (code.TheVariants.Vector cvss differences) = vector cvss (map difference_view differences.items)
finding_view (code.TheVariants.Rejected reason) = rejected (string_bytes reason)
