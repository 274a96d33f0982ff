-- What `cvss triage` is asked for.
use Rattle.std.specs.Prelude.{ℕ, List, filter_map, if◌then◌else◌, Option, None, Some, option_map, unwrap_or}
use Rattle.std.specs.Global.{Vec}
use Rattle.cvss_csv.specs.declared.asked.Column.{Column}
use Rattle.cvss_frame.specs.State.{State}
use Rattle.cvss_frame.specs.declared.served.Served.{Served}
use Rattle.cvss_subcommands.specs.Columns.{IsColumn, column_text}
use Rattle.cvss_subcommands.specs.Flags.{counts_of, scoring_of}
use Rattle.cvss_subcommands.specs.Values.{values_of}
use Rattle.cvss_subcommands.specs.declared.flags.Flag.{Flag}
use Rattle.cvss_subcommands.specs.declared.flags.Flag.TheVariants.{Set, Profile as ProfileFlag}
use Rattle.cvss_subcommands.specs.declared.flags.Flags.{Flags}
use Rattle.cvss_subcommands.specs.declared.subcommand.Subcommand.TheVariants.{Triage}
use Rattle.cvss_report.specs.declared.gate.Gate.{Gate}
use Rattle.cvss_triage.specs.Triage.{Asked, Triages}
use Rattle.cvss_triage.specs.declared.form.Form.{Form}
use Rattle.cvss_triage.specs.declared.form.Form.TheVariants.{Lines, Records}
use Rattle.cvss_triage.specs.declared.settings.SettingKind.{SettingKind}
use Rattle.cvss_triage.specs.declared.settings.SettingKind.TheVariants.{Metrics, Profile}

-- how an option sets metrics, if it does
abbrev pub kind_of : Flag → Option SettingKind
kind_of = elim [ Set ↦ Some Metrics | ProfileFlag ↦ Some Profile | _ ↦ None ]

-- what an option sets by its value
abbrev pub setting_of : Flag × List ℕ → Option (SettingKind × List ℕ)
setting_of (flag, word) = option_map (λ kind. (kind, word)) (kind_of flag)

-- what words set
abbrev pub settings_of : List (Vec ℕ) → List (SettingKind × List ℕ)
settings_of words = filter_map setting_of (values_of Triage words)

-- which rows are shown and fail: all and none where no option says it
abbrev pub rows_gate : Flags → Gate
rows_gate flags = record { minimum = unwrap_or flags.minimum 0; fail_on = flags.fail_on; quiet = flags.quiet }

-- what inputs are cut into
abbrev pub form_of : Flags → Form
form_of flags = if flags.csv then Records else Lines

-- what is asked for by the words and the flags, and by the column that the words say
abbrev pub asked_by : List (Vec ℕ) → Flags → Column → Asked
asked_by words flags column = record {
  settings = settings_of words;
  keep_going = flags.keep_going;
  allow_incomplete = flags.allow_incomplete;
  scoring = scoring_of flags.base;
  gate = rows_gate flags;
  count = counts_of flags;
  json = flags.json;
  header = flags.header;
  form = form_of flags;
  column = column;
  guarded = flags.guard;
  prefer = flags.prefer;
}

-- the lines or records of the operands are ranked
pub record TriagesBy (words : List (Vec ℕ)) (flags : Flags) (operands : List (Vec ℕ)) (old new : State) (served : Served) : Type 0 where
  pub column : Column
  pub is_column : IsColumn (column_text Triage words) column
  pub triages : Triages (asked_by words flags column) operands old new served
