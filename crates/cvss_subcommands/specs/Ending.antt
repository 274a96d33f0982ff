-- How the command ends: its exit status, and what it reports last.
use Rattle.std.specs.Prelude.{◌≡◌, ◌≢◌, ◌↔◌, ◌⊎◌, ℕ, ◌==◌, ◌&&◌, Bool, true, false, not, List, ◌++◌, codes, is_none, Option, None, Some, Result, MatchResult, IsSomeAnd, IsTrue}
use Rattle.std.specs.Global.{Vec}
use Rattle.std.specs.IoError.{error_kind}
use Rattle.std.specs.Option.{option_map}
use Rattle.std.specs.declared.io.Error.{Error}
use Rattle.std.specs.declared.io.ErrorKind.TheVariants.{BrokenPipe}
use Rattle.cvss_lines.specs.Exit.{fault_text}
use Rattle.cvss_lines.specs.declared.fault.RunFault.{RunFault}
use Rattle.cvss_lines.specs.declared.fault.RunFault.TheVariants.{Read, Write, Memory}
use Rattle.cvss_frame.specs.Arguments.{bytes_of}
use Rattle.cvss_frame.specs.Exit.{exit_status}
use Rattle.cvss_frame.specs.Reports.{Reported, Reports, ReportsError}
use Rattle.cvss_frame.specs.State.{State}
use Rattle.cvss_frame.specs.declared.served.Served.{Served}
use Rattle.cvss_subcommands.specs.Done.{Does}
use Rattle.cvss_subcommands.specs.Hints.{IsFirstHint, hint_text}
use Rattle.cvss_subcommands.specs.Ordering.{options_first}
use Rattle.cvss_subcommands.specs.Requests.{request_of}
use Rattle.cvss_subcommands.specs.UsageErrors.{ReportsUsage}
use Rattle.cvss_subcommands.specs.declared.flags.Flags.{Flags}
use Rattle.cvss_subcommands.specs.declared.hint.Hint.{Hint}
use Rattle.cvss_subcommands.specs.declared.requests.Request.{Request}
use Rattle.cvss_subcommands.specs.declared.requests.Request.TheVariants.{Run}
use Rattle.cvss_subcommands.specs.declared.subcommand.Subcommand.{Subcommand}
use Rattle.cvss_subcommands.specs.declared.subcommand.Subcommand.TheVariants.{Audit}
use Rattle.cvss_subcommands.specs.declared.usage_error.UsageError.{UsageError}

-- a text is reported, if there is one
abbrev pub ReportsIfAny : Option (List ℕ) → Reported → Reported → Type 0
ReportsIfAny None report report' = report' ≡ report
ReportsIfAny (Some text) report report' = Reports report report' text

-- where a line is rejected, the hint for the arguments is reported, if there is one
abbrev pub ReportsHint : Bool → List (Vec ℕ) → Reported → Reported → Type 0
ReportsHint false arguments report report' = report' ≡ report
ReportsHint true arguments report report' =
    (hint : Option Hint) × IsFirstHint arguments hint × ReportsIfAny (option_map hint_text hint) report report'

-- the reader of the answers has closed the pipe
abbrev pub IsClosed : Option Error → Type 0
IsClosed error = IsSomeAnd error (λ error. error_kind error ≡ BrokenPipe)

-- what is reported of a fault
abbrev pub fault_report : RunFault → List ℕ
fault_report fault = codes "cvss: " ++ fault_text fault ++ codes "\n"

-- what is reported of a failure to write the answers: nothing where the pipe was closed, and else the error
abbrev pub ReportsWrite : Option Error → Reported → Reported → Type 0
ReportsWrite None report report' = Reports report report' (fault_report Write)
ReportsWrite (Some error) report report' =
    ((error_kind error ≡ BrokenPipe) × (report' ≡ report))
    ⊎ ((error_kind error ≢ BrokenPipe) × ReportsError None (codes "standard output") report report')

-- what is reported of what stopped the command
abbrev pub ReportsStop : Option RunFault → Option Error → Reported → Reported → Type 0
ReportsStop None error report report' = report' ≡ report
ReportsStop (Some Write) error report report' = ReportsWrite error report report'
ReportsStop (Some Read) error report report' = Reports report report' (fault_report Read)
ReportsStop (Some Memory) error report report' = Reports report report' (fault_report Memory)

-- each vector has an object, and none is passed over
abbrev pub has_each : Flags → Bool
has_each flags = (flags.json && not flags.differing) && (not flags.quiet && is_none flags.minimum)

-- an audit is asked for that prints an object for each vector
abbrev pub prints_each : Request → Bool
prints_each (Run Audit options) = has_each options.flags
prints_each _ = false

-- nothing disagrees, nothing was written, and nothing failed
abbrev pub is_silent : ℕ → Bool → Option Error → Bool
is_silent status has_taken error = (status == 0) && (not has_taken && is_none error)

-- such an audit that is silent is reported, since the documents may have a form that it does not know
abbrev pub ReportsNote : Bool → Reported → Reported → Type 0
ReportsNote false report report' = report' ≡ report
ReportsNote true report report' = Reports report report' (codes "cvss: no vector was found\n")

-- how the command ends that has served what the arguments ask for: the status, and what is reported then. The Boolean:
-- standard output has taken bytes; and the error of its last write that failed.
pub record EndsServed (arguments : List (Vec ℕ)) (has_taken : Bool) (error : Option Error) (served : Served)
    (report report' : Reported) (status : ℕ) : Type 0 where
  pub closed : Bool
  pub is_closed : IsTrue closed ↔ IsClosed error
  pub status_is : status ≡ exit_status served closed
  pub hinted : Reported
  pub hint : ReportsHint served.rejected arguments report hinted
  pub stopped : Reported
  pub stop : ReportsStop served.stopped error hinted stopped
  pub note : ReportsNote (prints_each (request_of arguments) && is_silent status has_taken error) stopped report'

-- how the command ends whose arguments are not understood, where the general help is this text
abbrev pub EndsWrong : List ℕ → UsageError → List (Vec ℕ) → Reported → Reported → ℕ → Type 0
EndsWrong usage error arguments report report' status = (status ≡ 2) × ReportsUsage usage error arguments report report'

-- what the command has read, written and reported when it ends, and with which status
pub record EndsCommand (help : Option Subcommand → List ℕ) (version : List ℕ) (arguments : List (Vec ℕ)) (old new : State)
    (has_taken : Bool) (error : Option Error) (status : ℕ) : Type 0 where
  pub result : Result Served UsageError
  pub middle : Reported
  pub does : Does (request_of arguments) help version arguments old (record new { reported = middle }) result
  pub ends : MatchResult result (λ served. EndsServed arguments has_taken error served middle new.reported status)
      (λ error. EndsWrong (help None) error arguments middle new.reported status)

-- the command ends before it does anything, since there is no memory for its arguments
pub record EndsBefore (old new : State) (status : ℕ) : Type 0 where
  pub kept : new ≡ record old { reported = new.reported }
  pub status_is : status ≡ 2
  pub reports : Reports old.reported new.reported (fault_report Memory)

-- the command ends as the arguments in order ask for, or before it does anything
abbrev pub EndsOrdered : (Option Subcommand → List ℕ) → List ℕ → List (Vec ℕ) → State → State → Bool → Option Error → ℕ → Type 0
EndsOrdered help version arguments old new has_taken error status =
    ((ordered : List (Vec ℕ)) × (bytes_of ordered ≡ options_first (bytes_of arguments))
    × EndsCommand help version ordered old new has_taken error status)
    ⊎ EndsBefore old new status
