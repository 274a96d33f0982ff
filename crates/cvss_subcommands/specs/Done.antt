-- What the command does, by what its arguments ask for.
use Rattle.std.specs.Prelude.{◌≡◌, ◌⊎◌, ℕ, Bool, true, false, List, [], ◌∷◌, Option, Some, None, Result, Ok, Err, IsOkAnd}
use Rattle.std.specs.Global.{Vec}
use Rattle.std.specs.Str.{IsUtf8}
use Rattle.cvss_subcommands.specs.Arguments.{metrics_in, operands_of, words_of}
use Rattle.cvss_subcommands.specs.Auditing.{Audits}
use Rattle.cvss_subcommands.specs.Csv.{AnswersCsv}
use Rattle.cvss_subcommands.specs.Counting.{ServesAndCounts}
use Rattle.cvss_subcommands.specs.Flags.{counts_of, gate_by, scoring_of}
use Rattle.cvss_subcommands.specs.Comparing.{Compares}
use Rattle.cvss_subcommands.specs.Explaining.{explain_rule}
use Rattle.cvss_subcommands.specs.Hints.{prefix_hint}
use Rattle.cvss_subcommands.specs.Scoring.{AnswersLines, ScoresHinted, WritesText}
use Rattle.cvss_subcommands.specs.Setting.{set_rule}
use Rattle.cvss_subcommands.specs.Triaging.{TriagesBy}
use Rattle.cvss_subcommands.specs.declared.flags.Flags.{Flags}
use Rattle.cvss_subcommands.specs.declared.requests.Options.{Options}
use Rattle.cvss_subcommands.specs.declared.requests.Request.{Request}
use Rattle.cvss_subcommands.specs.declared.requests.Request.TheVariants.{Help, Version, Wrong, Run}
use Rattle.cvss_subcommands.specs.declared.subcommand.Subcommand.{Subcommand}
use Rattle.cvss_subcommands.specs.declared.subcommand.Subcommand.TheVariants.{Score, Find, Explain, Set, Triage, Audit, Diff}
use Rattle.cvss_subcommands.specs.declared.usage_error.UsageError.{UsageError}
use Rattle.cvss_subcommands.specs.declared.usage_error.UsageError.TheVariants.{NoMetric, NotUtf8}
use Rattle.cvss_explain.specs.Json as json
use Rattle.cvss_matches.specs.Answers.{find_rule}
use Rattle.cvss_matches.specs.declared.form.Form.{Form}
use Rattle.cvss_matches.specs.declared.hint.PrefixHint.{PrefixHint}
use Rattle.cvss_matches.specs.declared.form.Form.TheVariants.{Annotated, Located, Object}
use Rattle.cvss_lines.specs.Runs.{Ends}
use Rattle.cvss_lists.specs.Shown.{IsShown}
use Rattle.cvss_lines.specs.declared.fault.RunFault.TheVariants.{Memory}
use Rattle.cvss_frame.specs.Exit.{after, nothing_served}
use Rattle.cvss_frame.specs.Names.{shown_name}
use Rattle.cvss_frame.specs.Operands.{Endings, Rests, ServesAll}
use Rattle.cvss_frame.specs.Reports.{Reported, Reports}
use Rattle.cvss_frame.specs.State.{State}
use Rattle.cvss_frame.specs.declared.served.Served.{Served}
use Rattle.cvss_report.specs.declared.gate.Gate.{Gate}
use Rattle.cvss_vector.specs.declared.scoring.Scoring.{Scoring}
use Rattle.cvss_vector.specs.declared.setting.Version as version

-- the help on a subcommand or on all, of these texts
abbrev pub help_of : List ℕ → List ℕ → List ℕ → List ℕ → List ℕ → List ℕ → List ℕ → List ℕ → Option Subcommand → List ℕ
help_of all score find explain set triage audit diff None = all
help_of all score find explain set triage audit diff (Some Score) = score
help_of all score find explain set triage audit diff (Some Find) = find
help_of all score find explain set triage audit diff (Some Explain) = explain
help_of all score find explain set triage audit diff (Some Set) = set
help_of all score find explain set triage audit diff (Some Triage) = triage
help_of all score find explain set triage audit diff (Some Audit) = audit
help_of all score find explain set triage audit diff (Some Diff) = diff

-- the form of the answers of `cvss find`, by whether --json, --annotate and --all are given
abbrev pub form_of : Bool → Bool → Bool → Form
form_of true annotate all = Object
form_of false true all = Annotated all
form_of false false all = Located

-- what texts begin with, by what the answers of an input begin with: in objects the name of the file is a member
abbrev pub prefix_in : Form → List ℕ → List ℕ
prefix_in Object prefix = prefix
prefix_in Located prefix = shown_name prefix
prefix_in (Annotated all) prefix = shown_name prefix

-- each line is answered by what is found in it
abbrev pub FindsVectors : Form → Scoring → Bool → Option version.Version → Option Gate → Endings
FindsVectors form scoring allow_incomplete assumed gate prefix =
    Ends (find_rule form scoring allow_incomplete assumed gate (prefix_in form prefix))

-- how an input is answered by `cvss find`
abbrev pub find_ends : Flags → Endings
find_ends flags =
    FindsVectors (form_of flags.json flags.annotate flags.all) (scoring_of flags.base) flags.allow_incomplete flags.assumed (gate_by flags)

-- the vectors in the operands are found, and printed or counted
abbrev pub FindsOrCounts : Bool → Endings → List (Vec ℕ) → State → State → Served → Type 0
FindsOrCounts true ends = ServesAndCounts ends
FindsOrCounts false ends = ServesAll ends

-- nothing is reported, or a hint
abbrev pub MayHint : Reported → Reported → Type 0
MayHint report report' = (report' ≡ report) ⊎ ((hint : PrefixHint) × Reports report report' (prefix_hint hint))

-- the vectors in the operands are found, and a hint may follow: a cell keeps what is wrong with the prefix of one that is
-- rejected, of which no contract speaks
abbrev pub FindsAll : Flags → List (Vec ℕ) → State → State → Served → Type 0
FindsAll flags operands old new served =
    (middle : Reported) × FindsOrCounts (counts_of flags) (find_ends flags) operands old (record new { reported = middle }) served
    × MayHint middle new.reported

-- nothing is read, written or reported
pub record Idle (old new : State) (result expected : Result Served UsageError) : Type 0 where
  pub ended : result ≡ expected
  pub rests : Rests old new

-- the operands are answered
abbrev pub Answers : Endings → Options → List (Vec ℕ) → State → State → Result Served UsageError → Type 0
Answers ends options arguments old new result =
    IsOkAnd result (ServesAll ends (operands_of options.operands arguments) old new)

-- the metrics, each after a slash, are set in the vectors of the operands, unless there is none or they are no text
abbrev pub SetsGiven : List ℕ → Options → List (Vec ℕ) → State → State → Result Served UsageError → Type 0
SetsGiven [] options arguments old new result = Idle old new result (Err NoMetric)
SetsGiven (slash ∷ metrics) options arguments old new result =
    Answers (AnswersLines (IsShown (set_rule (scoring_of options.flags.base) options.flags.allow_incomplete metrics))) options arguments old new result
    ⊎ (¬ (IsUtf8 metrics) × Idle old new result (Err NotUtf8))

-- the same, unless memory runs out
abbrev pub SetsMetrics : List ℕ → Options → List (Vec ℕ) → State → State → Result Served UsageError → Type 0
SetsMetrics given options arguments old new result =
    SetsGiven given options arguments old new result ⊎ Idle old new result (Ok (after nothing_served (Err Memory)))

-- each line is answered by an object that explains the score
abbrev pub ExplainsByObjects : Bool → Endings
ExplainsByObjects allow_incomplete prefix = Ends (json.IsAnswer allow_incomplete prefix)

-- each line is answered by a text for people that explains the score
abbrev pub ExplainsByTexts : Bool → Bool → Endings
ExplainsByTexts what_if allow_incomplete = AnswersLines (explain_rule what_if allow_incomplete)

-- how an input is answered by `cvss explain`, by whether --json, --what-if and --allow-incomplete are given
abbrev pub explain_ends : Bool → Bool → Bool → Endings
explain_ends true what_if = ExplainsByObjects
explain_ends false what_if = ExplainsByTexts what_if

-- what `cvss score` does, by whether --csv is given
abbrev pub ScoresOf : Bool → Flags → List (Vec ℕ) → List (Vec ℕ) → State → State → Served → Type 0
ScoresOf true flags words = AnswersCsv Score flags words
ScoresOf false flags words = ScoresHinted flags

-- and `cvss find`
abbrev pub FindsOf : Bool → Flags → List (Vec ℕ) → List (Vec ℕ) → State → State → Served → Type 0
FindsOf true flags words = AnswersCsv Find flags words
FindsOf false flags words = FindsAll flags

-- what each subcommand does
abbrev pub Runs : Subcommand → Options → List (Vec ℕ) → State → State → Result Served UsageError → Type 0
Runs Score options arguments old new result =
    IsOkAnd result (ScoresOf options.flags.csv options.flags (words_of options.words arguments) (operands_of options.operands arguments) old new)
Runs Find options arguments old new result =
    IsOkAnd result (FindsOf options.flags.csv options.flags (words_of options.words arguments) (operands_of options.operands arguments) old new)
Runs Explain options arguments old new result =
    Answers (explain_ends options.flags.json options.flags.what_if options.flags.allow_incomplete) options arguments old new result
Runs Set options arguments old new result =
    SetsMetrics (metrics_in (words_of options.words arguments)) options arguments old new result
Runs Triage options arguments old new result =
    IsOkAnd result (TriagesBy (words_of options.words arguments) options.flags (operands_of options.operands arguments) old new)
Runs Audit options arguments old new result =
    IsOkAnd result (Audits options.flags (operands_of options.operands arguments) old new)
Runs Diff options arguments old new result =
    IsOkAnd result (Compares options.flags.base options.flags.allow_incomplete (operands_of options.operands arguments) old new)

-- the text is written, and nothing else changes
abbrev pub Prints : List ℕ → State → State → Result Served UsageError → Type 0
Prints text old new result =
    IsOkAnd result (WritesText text old.written new.written) × (new ≡ record old { written = new.written })

abbrev pub Does : Request → (Option Subcommand → List ℕ) → List ℕ → List (Vec ℕ) → State → State → Result Served UsageError → Type 0
Does (Help of) help version arguments old new result = Prints (help of) old new result
Does Version help version arguments old new result = Prints version old new result
Does (Wrong error) help version arguments old new result = Idle old new result (Err error)
Does (Run subcommand options) help version arguments old new result = Runs subcommand options arguments old new result
