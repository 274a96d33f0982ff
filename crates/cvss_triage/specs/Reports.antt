-- What is reported on standard error of lines or records that have no row, and of metrics that hold for no version.
use Rattle.std.specs.Prelude.{◌≡◌, ◌⊎◌, ℕ, ◌+◌, ◌-◌, ◌==◌, Bool, true, false, List, [], ◌∷◌, ◌++◌, codes, get_or, if◌then◌else◌, length, Option, None, Some}
use Rattle.std.specs.Global.{Vec}
use Rattle.cvss_csv.specs.Layouts.{ReportsMissing}
use Rattle.cvss_csv.specs.declared.asked.Column.{Column}
use Rattle.cvss_vector.specs.Reasons.{error_message}
use Rattle.cvss_lines.specs.Lines.{lines}
use Rattle.cvss_frame.specs.Names.{shown_name}
use Rattle.cvss_frame.specs.Reports.{Reported, Reports}
use Rattle.cvss_triage.specs.Lines.{Line}
use Rattle.cvss_triage.specs.Overrides.{HoldsForSome}
use Rattle.cvss_triage.specs.Locations.{IsAt, location_text}
use Rattle.cvss_triage.specs.Settings.{as_metrics, line_metrics}
use Rattle.cvss_triage.specs.declared.form.Form.{Form}
use Rattle.cvss_triage.specs.declared.form.Form.TheVariants.{Lines, Records}
use Rattle.cvss_triage.specs.declared.overrides.Family.{Family}
use Rattle.cvss_triage.specs.declared.overrides.Override.{Override}
use Rattle.cvss_triage.specs.declared.ranking.BadLine.{BadLine}
use Rattle.cvss_triage.specs.declared.reading.Reason.{Reason}
use Rattle.cvss_triage.specs.declared.reading.Reason.TheVariants.{NoVector, SeveralVectors, Rejected}
use Rattle.cvss_triage.specs.declared.settings.SettingKind.{SettingKind}
use Rattle.cvss_triage.specs.declared.settings.SettingKind.TheVariants.{Metrics, Profile}
use Rattle.cvss_triage.specs.declared.settings.SettingText.{SettingText}

-- several vectors are found
abbrev pub several_text : Form → List ℕ
several_text Lines = codes "more than one vector on this line"
several_text Records = codes "more than one vector in this record"

-- why a line or a record has no row
abbrev pub reason_words : Form → Reason → List ℕ
reason_words form NoVector = codes "no vector"
reason_words form SeveralVectors = several_text form
reason_words form (Rejected error) = error_message error

-- of a record that is not closed no bytes are ranked, and of no other
abbrev pub is_unclosed : Form → Option Line → Bool
is_unclosed Records (Some line) = length line.bytes == 0
is_unclosed Records None = false
is_unclosed Lines line = false

-- the same, or that the record is not closed
abbrev pub why_text : Form → Bool → Reason → List ℕ
why_text form unclosed reason = if unclosed then codes "a quoted field is not closed" else reason_words form reason

-- what is reported of the line or the record of this number
abbrev pub bad_line_text : Form → Bool → Option (List ℕ) → ℕ → Reason → List ℕ
bad_line_text form unclosed name number reason =
    codes "cvss: " ++ (location_text form name number ++ (why_text form unclosed reason ++ codes "\n"))

-- what is reported of metrics that no version has
abbrev pub unknown_text : List ℕ → List ℕ
unknown_text metrics = codes "cvss: no CVSS version has " ++ (shown_name metrics ++ codes "\n")

-- and of the line at this location of a profile
abbrev pub unknown_line_text : List ℕ → List ℕ → List ℕ
unknown_line_text location line =
    codes "cvss: " ++ (location ++ (codes "not v2 metrics, nor v3 or v4.0 metrics after their prefix: " ++ (shown_name line ++ codes "\n")))

-- each of some is reported in turn, as the step says
abbrev pub ReportsEach : {X : Type 0} → (X → Reported → Reported → Type 0) → List X → Reported → Reported → Type 0
ReportsEach step [] report report' = report' ≡ report
ReportsEach step (it ∷ more) report report' =
    (report'' : Reported) × step it report report'' × ReportsEach step more report'' report'

-- metrics are reported by this text if they hold for no vector
pub record ReportsUnknown (metrics : Option Family × List ℕ) (text : List ℕ) (report report' : Reported) : Type 0 where
  pub it : Override
  pub is : as_metrics it ≡ metrics
  pub reported : (HoldsForSome it × (report' ≡ report)) ⊎ (¬ (HoldsForSome it) × Reports report report' text)

-- the same of what the line of this number sets, if it is not blank
abbrev pub ReportsUnknownIn : Option (Option Family × List ℕ) → List ℕ → List ℕ → Reported → Reported → Type 0
ReportsUnknownIn None location line report report' = report' ≡ report
ReportsUnknownIn (Some metrics) location line report report' = ReportsUnknown metrics (unknown_line_text location line) report report'

-- the same of the lines of a profile in turn, of which the first has this number
abbrev pub ReportsLines : List ℕ → ℕ → List (List ℕ) → Reported → Reported → Type 0
ReportsLines name number [] report report' = report' ≡ report
ReportsLines name number (line ∷ lines) report report' =
    (report'' : Reported) × ReportsUnknownIn (line_metrics line) (location_text Lines (Some name) number) line report report''
    × ReportsLines name (number + 1) lines report'' report'

-- the same of the text of a setting, by its kind and its word, if it is read
abbrev pub ReportsText : SettingKind → List ℕ → Option (Vec ℕ) → Reported → Reported → Type 0
ReportsText kind word None report report' = report' ≡ report
ReportsText Metrics word (Some text) report report' = ReportsUnknown (None, text.items) (unknown_text text.items) report report'
ReportsText Profile word (Some text) report report' = ReportsLines word 1 (lines text.items) report report'

abbrev pub ReportsSetting : SettingText → Reported → Reported → Type 0
ReportsSetting it = ReportsText it.setting.now.kind it.setting.now.word.now it.text

-- what is ranked of the line or the record of this number
abbrev pub row_at : List (Option Line) → ℕ → Option Line
row_at rows number = get_or rows (number - 1) None

-- a line or a record without a row is reported
pub record ReportsBadLine (form : Form) (rows : List (Option Line)) (starts : List ℕ) (many : Bool) (operands : List (Vec ℕ)) (bad : BadLine)
    (report report' : Reported) : Type 0 where
  pub name : Option (List ℕ)
  pub within : ℕ
  pub at : IsAt starts many operands bad.number name within
  pub reports : Reports report report' (bad_line_text form (is_unclosed form (row_at rows bad.number)) name within bad.reason)

-- if an input lacks the column, that is reported, once for all inputs
abbrev pub ReportsLacking : Bool → Column → Reported → Reported → Type 0
ReportsLacking true column report report' = ReportsMissing column report report'
ReportsLacking false column report report' = report' ≡ report
