-- What `cvss score --csv` and `cvss find --csv` do.
use Rattle.std.specs.Prelude.{◌≡◌, ◌⊎◌, ℕ, Bool, true, false, List}
use Rattle.std.specs.Global.{Vec}
use Rattle.cvss_csv.specs.Layouts.{ReportsMissing}
use Rattle.cvss_csv.specs.Tasks.{TaskEnds}
use Rattle.cvss_csv.specs.declared.asked.Asked.{Asked}
use Rattle.cvss_csv.specs.declared.asked.Column as column
use Rattle.cvss_csv.specs.declared.asked.Column.TheVariants.{AnyColumn}
use Rattle.cvss_frame.specs.Operands.{ServesAll}
use Rattle.cvss_frame.specs.Reports.{Reported}
use Rattle.cvss_frame.specs.State.{State}
use Rattle.cvss_frame.specs.declared.served.Served.{Served}
use Rattle.cvss_subcommands.specs.Columns.{IsColumn, column_text}
use Rattle.cvss_subcommands.specs.Flags.{scoring_of}
use Rattle.cvss_subcommands.specs.declared.flags.Flags.{Flags}
use Rattle.cvss_subcommands.specs.declared.subcommand.Subcommand.{Subcommand}
use Rattle.cvss_subcommands.specs.declared.subcommand.Subcommand.TheVariants.{Find}

-- each vector of a record has a row of its own in `cvss find`
abbrev pub finds_each : Subcommand → Bool
finds_each = elim [ Find ↦ true | _ ↦ false ]

abbrev pub asked_of : Subcommand → Flags → Asked
asked_of subcommand flags = record {
  scoring = scoring_of flags.base;
  allow_incomplete = flags.allow_incomplete;
  guarded = flags.guard;
  each = finds_each subcommand;
}

-- an input has no such column: that is reported, and counts as an input that cannot be read
abbrev pub Misses : column.Column → Served → Reported → Reported → Served → Type 0
Misses AnyColumn served report report' served' = ⊥
Misses given served report report' served' =
    ReportsMissing given report report' × (served' ≡ record served { unread = true })

-- or nothing is
abbrev pub MayMiss : column.Column → Served → Reported → Reported → Served → Type 0
MayMiss given served report report' served' =
    ((report' ≡ report) × (served' ≡ served)) ⊎ Misses given served report report' served'

-- the records of the operands are answered, and a report may follow: a cell keeps whether a column was not found, of which
-- no contract speaks
pub record AnswersCsv (subcommand : Subcommand) (flags : Flags) (words : List (Vec ℕ)) (operands : List (Vec ℕ)) (old new : State) (served : Served) : Type 0 where
  pub given : column.Column
  pub is_given : IsColumn (column_text subcommand words) given
  pub middle : Reported
  pub found : Served
  pub answered : ServesAll (λ prefix. TaskEnds (asked_of subcommand flags) given) operands old (record new { reported = middle }) found
  pub missed : MayMiss given found middle new.reported served
