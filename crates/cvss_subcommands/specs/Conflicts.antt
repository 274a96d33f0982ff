-- Options and operands that do not go together.
use Rattle.std.specs.Prelude.{ℕ, ◌==◌, ◌&&◌, Bool, not, is_some, List, length, Option, Some, None, if◌then◌else◌}
use Rattle.std.specs.Global.{Vec}
use Rattle.std.specs.List.{list_any}
use Rattle.std.specs.Option.{option_map, option_or}
use Rattle.cvss_frame.specs.Sources.{has_name, source_of}
use Rattle.cvss_subcommands.specs.Flags.{all_scores_of, gate_flag}
use Rattle.cvss_subcommands.specs.declared.flags.Flag.{Flag}
use Rattle.cvss_subcommands.specs.declared.flags.Flag.TheVariants.{Annotate, Assume, Column, Count, Csv, Differing, Guard, Header, Json, Standard, Tsv}
use Rattle.cvss_subcommands.specs.declared.flags.Flags.{Flags}
use Rattle.cvss_subcommands.specs.declared.subcommand.Subcommand.{Subcommand}
use Rattle.cvss_subcommands.specs.declared.subcommand.Subcommand.TheVariants.{Audit, Diff, Find, Score, Triage}
use Rattle.cvss_subcommands.specs.declared.usage_error.UsageError.{UsageError}
use Rattle.cvss_subcommands.specs.declared.usage_error.UsageError.TheVariants.{AllScores, NeedsJson, NeedsTable, NotForVectors, NotTwo, NotWith}

-- the option whose output has all scores, if it is given with --base
abbrev pub all_scores_error : Subcommand → Option Flag → Option UsageError
all_scores_error subcommand None = None
all_scores_error subcommand (Some flag) = Some (AllScores subcommand flag)

-- the form that is asked for, if it is one of rows
abbrev pub rows_of : Flags → Option Flag
rows_of flags = if flags.json then Some Json else if flags.tsv then Some Tsv else None

-- the option that does not go with rows
abbrev pub without_rows : Flags → Option Flag
without_rows flags = if flags.standard then Some Standard else if flags.count then Some Count else None

-- the option of `cvss score` that does not go with --csv
abbrev pub score_without_csv : Flags → Option Flag
score_without_csv flags = elim (rows_of flags) [
  | Some rows ↦ Some rows
  | None ↦ if flags.standard then Some Standard else gate_flag flags
]

-- what is wrong with the options of `cvss score` that are given together, without --csv
abbrev pub lines_conflict : Flags → Option UsageError
lines_conflict flags = elim (without_rows flags) [
  | Some flag ↦ option_map (λ rows. NotWith Score flag rows) (rows_of flags)
  | None ↦ all_scores_error Score (all_scores_of flags)
]

-- numbers of vectors have one form
abbrev pub count_conflict : Subcommand → Flags → Option UsageError
count_conflict subcommand flags = if flags.count && flags.json then Some (NotWith subcommand Count Json) else None

-- the option of `cvss triage` that does not go with --csv: rows of tables are records, which say themselves whether they are
-- headers
abbrev pub triage_without_csv : Flags → Option Flag
triage_without_csv flags =
    if flags.json then Some Json
    else if flags.count then Some Count
    else if flags.header then Some Header
    else None

-- what is wrong with the options of `cvss find` that are given together, without --csv: --annotate repeats all lines
abbrev pub texts_conflict : Flags → Option UsageError
texts_conflict flags =
    if flags.annotate then elim (gate_flag flags) [
      | Some flag ↦ Some (NotWith Find flag Annotate)
      | None ↦ all_scores_error Find (all_scores_of flags)
    ]
    else option_or (count_conflict Find flags) (all_scores_error Find (all_scores_of flags))

-- the option of `cvss find` that says in which version vectors are read
abbrev pub assume_flag : Flags → Option Flag
assume_flag flags = if is_some flags.assumed then Some Assume else None

-- the option of `cvss find` that does not go with --csv
abbrev pub find_without_csv : Flags → Option Flag
find_without_csv flags =
    if flags.json then Some Json
    else if flags.annotate then Some Annotate
    else option_or (gate_flag flags) (assume_flag flags)

-- what is wrong with the options of a subcommand that reads tables: with --csv the option that does not go with it; without
-- it one that needs it, or what else is wrong. Cells of columns with tabs are guarded too.
abbrev pub table_conflict : Subcommand → Flags → Option Flag → Option UsageError → Option UsageError
table_conflict subcommand flags excluded wrong =
    if flags.csv then option_map (λ other. NotWith subcommand Csv other) excluded
    else if flags.column then Some (NeedsTable subcommand Column)
    else if flags.guard && not flags.tsv then Some (NeedsTable subcommand Guard)
    else wrong

-- one of the operands is a vector
abbrev pub has_vector : List (Vec ℕ) → Bool
has_vector operands = list_any (λ operand. not (has_name (source_of operand.items))) operands

-- a vector that is an operand has no header
abbrev pub header_conflict : Flags → List (Vec ℕ) → Option UsageError
header_conflict flags operands = if flags.header && has_vector operands then Some (NotForVectors Triage Header) else None

-- what is wrong with what is given together: options and operands. Where `cvss triage` prints all scores, --base says by
-- which it ranks.
abbrev pub conflict_of : Subcommand → Flags → List (Vec ℕ) → Option UsageError
conflict_of Triage flags operands =
    option_or (header_conflict flags operands) (table_conflict Triage flags (triage_without_csv flags) (count_conflict Triage flags))
conflict_of Score flags operands = table_conflict Score flags (score_without_csv flags) (lines_conflict flags)
conflict_of Find flags operands = table_conflict Find flags (find_without_csv flags) (texts_conflict flags)
conflict_of Audit flags operands =
    if flags.differing && not flags.json then Some (NeedsJson Audit Differing)
    else count_conflict Audit flags
conflict_of Diff flags operands = if length operands == 2 then None else Some NotTwo
conflict_of subcommand flags operands = all_scores_error subcommand (all_scores_of flags)
