-- What `cvss score` does.
use Rattle.std.specs.Prelude.{◌≡◌, ◌⊎◌, ℕ, Bool, true, false, List, [], take, Option, None, Some, Err}
use Rattle.std.specs.Global.{Vec}
use Rattle.std.specs.Io.KnownBytes.{Appends}
use Rattle.cvss_subcommands.specs.Counting.{ServesAndCounts}
use Rattle.cvss_subcommands.specs.Flags.{counting_gate_of, counts_of, gate_of, is_quiet, scoring_of}
use Rattle.cvss_subcommands.specs.Hints.{hint_text}
use Rattle.cvss_subcommands.specs.declared.flags.Flags.{Flags}
use Rattle.cvss_subcommands.specs.declared.hint.Hint.{Hint}
use Rattle.cvss_vector.specs.Lines.{score_rule}
use Rattle.cvss_vector.specs.declared.scoring.Scoring.{Scoring}
use Rattle.cvss_vector.specs.declared.scoring.Scoring.TheVariants.{Overall}
use Rattle.cvss_lines.specs.Answers.{Rule}
use Rattle.cvss_lines.specs.Prefixed.{IsPrefixed}
use Rattle.cvss_lines.specs.Runs.{Ends}
use Rattle.cvss_lines.specs.declared.fault.RunFault.TheVariants.{Write}
use Rattle.cvss_lists.specs.Departures.{MeetsAll, strict_rule}
use Rattle.cvss_lists.specs.Gated.{IsGated}
use Rattle.cvss_report.specs.LineScores.{IsScoreOfLine}
use Rattle.cvss_lists.specs.Shown.{IsShown}
use Rattle.cvss_lists.specs.Trimmed.{ReportsTrimmed, trimmed_rule}
use Rattle.cvss_report.specs.declared.gate.Gate.{Gate}
use Rattle.cvss_frame.specs.Exit.{after, nothing_served}
use Rattle.cvss_frame.specs.Names.{shown_name}
use Rattle.cvss_frame.specs.Operands.{Ending, Endings, ServesAll, many_files}
use Rattle.cvss_frame.specs.Reports.{Reported, Reports}
use Rattle.cvss_frame.specs.State.{State}
use Rattle.cvss_frame.specs.declared.served.Served.{Served}
use Rattle.cvss_report.specs.Rows.{IsRow, header_text, tsv_of}
use Rattle.cvss_report.specs.declared.format.Format.{Format}
use Rattle.cvss_report.specs.declared.format.Format.TheVariants.{Json}

-- the text is written, or a beginning of it where the writer fails
abbrev pub WritesText : List ℕ → Option (List ℕ) → Option (List ℕ) → Served → Type 0
WritesText text written written' served =
    ((served ≡ nothing_served) × Appends written written' text)
    ⊎ ((served ≡ after nothing_served (Err Write)) × ((count : ℕ) × Appends written written' (take count text)))

-- each line is answered by the rule
abbrev pub AnswersLines : Rule → Endings
AnswersLines rule prefix = Ends (IsPrefixed (shown_name prefix) rule)

-- lines are answered by the rule, through a gate if there is one, where answers by the rule report these scores
abbrev pub EndsThrough : Option Gate → (List ℕ → ℕ → Type 0) → Rule → Ending
EndsThrough None Reports rule = Ends rule
EndsThrough (Some gate) Reports rule = Ends (IsGated gate Reports rule)

-- the text of each line, without the blanks around it, is answered by the rule, with escapes in what a rejection quotes
abbrev pub AnswersTexts : Option Gate → (List ℕ → ℕ → Type 0) → Rule → Endings
AnswersTexts gate Reports rule prefix = EndsThrough gate (ReportsTrimmed Reports) (IsPrefixed (shown_name prefix) (trimmed_rule (IsShown rule)))

-- the text of each line is answered by a row, whose first column has the name of the file or not
abbrev pub AnswersRow : Option Gate → Format → Bool → Bool → Endings
AnswersRow gate format named allow_incomplete prefix =
    EndsThrough gate (ReportsTrimmed (IsScoreOfLine Overall allow_incomplete)) (trimmed_rule (IsRow format named allow_incomplete prefix))

-- the names of the columns, or nothing where nothing is to be printed
abbrev pub header_if : Bool → Bool → List ℕ
header_if true many = []
header_if false many = header_text many

-- the names of the columns are written, and then the operands are answered by rows; or a beginning of the names, where the
-- writer fails
abbrev pub ServesTable : Option Gate → Bool → Bool → List (Vec ℕ) → State → State → Served → Type 0
ServesTable gate guarded allow_incomplete operands old new served =
    ((written : Option (List ℕ)) × Appends old.written written (header_if (is_quiet gate) (many_files operands))
    × ServesAll (AnswersRow gate (tsv_of guarded) (many_files operands) allow_incomplete) operands (record old { written = written }) new served)
    ⊎ (((count : ℕ) × Appends old.written new.written (take count (header_if (is_quiet gate) (many_files operands))))
    × (new ≡ record old { written = new.written }) × (served ≡ after nothing_served (Err Write)))

-- the score lines of texts, which may have to meet their standard
abbrev pub ScoresTexts : Bool → Option Gate → Scoring → Bool → Endings
ScoresTexts true gate scoring allow_incomplete =
    AnswersTexts gate (λ line tenths. MeetsAll line × IsScoreOfLine scoring allow_incomplete line tenths)
    (strict_rule (score_rule scoring allow_incomplete))
ScoresTexts false gate scoring allow_incomplete =
    AnswersTexts gate (IsScoreOfLine scoring allow_incomplete) (score_rule scoring allow_incomplete)

-- the score lines, through this gate
abbrev pub ScoresLines : Flags → Option Gate → Endings
ScoresLines flags gate = ScoresTexts flags.standard gate (scoring_of flags.base) flags.allow_incomplete

-- the score lines, or the numbers of vectors and of rejected lines
abbrev pub ScoresOrCounts : Bool → Flags → List (Vec ℕ) → State → State → Served → Type 0
ScoresOrCounts true flags = ServesAndCounts (ScoresLines flags (Some (counting_gate_of flags)))
ScoresOrCounts false flags = ServesAll (ScoresLines flags (gate_of flags))

-- how the vectors are answered, by whether --json and --tsv are given, and by the other options
abbrev pub ScoresBy : Bool → Bool → Flags → List (Vec ℕ) → State → State → Served → Type 0
ScoresBy true tsv flags = ServesAll (AnswersRow (gate_of flags) Json false flags.allow_incomplete)
ScoresBy false true flags = ServesTable (gate_of flags) flags.guard flags.allow_incomplete
ScoresBy false false flags = ScoresOrCounts (counts_of flags) flags

abbrev pub Scores : Flags → List (Vec ℕ) → State → State → Served → Type 0
Scores flags = ScoresBy flags.json flags.tsv flags

-- nothing is reported, or a hint
abbrev pub MayHint : Reported → Reported → Type 0
MayHint report report' = (report' ≡ report) ⊎ ((hint : Hint) × Reports report report' (hint_text hint))

-- the vectors are answered, and a hint may follow: a cell keeps that for a rejected line, of which no contract speaks
abbrev pub ScoresHinted : Flags → List (Vec ℕ) → State → State → Served → Type 0
ScoresHinted flags operands old new served =
    (middle : Reported) × Scores flags operands old (record new { reported = middle }) served × MayHint middle new.reported
