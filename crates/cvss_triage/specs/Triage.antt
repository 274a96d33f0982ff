-- What triage reads and writes, and what it comes to.
use Rattle.std.specs.Prelude.{◌≡◌, ◌⊎◌, ℕ, ◌||◌, ◌==◌, Bool, true, false, not, List, [], length, map, take, if◌then◌else◌, Option, None, Err}
use Rattle.std.specs.Global.{Vec}
use Rattle.std.specs.Io.KnownBytes.{Appends, Keeps}
use Rattle.std.specs.List.{AllZip, list_any}
use Rattle.cvss_csv.specs.declared.asked.Column.{Column}
use Rattle.cvss_lines.specs.declared.fault.RunFault.TheVariants.{Memory, Read, Write}
use Rattle.cvss_vector.specs.declared.scoring.Scoring.{Scoring}
use Rattle.cvss_frame.specs.Exit.{after, nothing_served}
use Rattle.cvss_frame.specs.Operands.{many_files}
use Rattle.cvss_frame.specs.Reports.{Reported}
use Rattle.cvss_frame.specs.State.{State}
use Rattle.cvss_frame.specs.declared.served.Served.{Served}
use Rattle.cvss_report.specs.Tallies.{count_text}
use Rattle.cvss_report.specs.declared.gate.Gate.{Gate}
use Rattle.cvss_triage.specs.Counts.{tally_of}
use Rattle.cvss_triage.specs.Inputs.{IsInputOf, ReadsEach, ReadsInput, inputs_of, is_unread, lacks_column}
use Rattle.cvss_triage.specs.Lines.{first_header, is_crlf, lines_of}
use Rattle.cvss_triage.specs.Locations.{starts_of}
use Rattle.cvss_triage.specs.Ranking.{IsRanking}
use Rattle.cvss_triage.specs.Reports.{ReportsBadLine, ReportsEach, ReportsLacking, ReportsSetting}
use Rattle.cvss_triage.specs.Rows.{IsRowText, IsTable}
use Rattle.cvss_triage.specs.Settings.{AreUnderstood, ReadsSetting, all_given, as_metrics, as_words}
use Rattle.cvss_triage.specs.Shown.{after_gate, shown_rows}
use Rattle.cvss_triage.specs.declared.form.Form.{Form}
use Rattle.cvss_triage.specs.declared.form.Form.TheVariants.{Lines, Records}
use Rattle.cvss_triage.specs.declared.input.Input.{Input}
use Rattle.cvss_triage.specs.declared.overrides.Override.{Override}
use Rattle.cvss_triage.specs.declared.preferring.Preference.{Preference}
use Rattle.cvss_triage.specs.declared.ranking.BadLine.{BadLine}
use Rattle.cvss_triage.specs.declared.ranking.Ranking.{Ranking}
use Rattle.cvss_triage.specs.declared.settings.SettingKind.{SettingKind}
use Rattle.cvss_triage.specs.declared.settings.SettingText.{SettingText}
use Rattle.cvss_triage.specs.declared.style.Style.{Style}
use Rattle.cvss_triage.specs.declared.style.Style.TheVariants.{Words, Objects, Table}
use Rattle.cvss_triage.specs.declared.triage.Triage.{Triage}

-- what triage is asked for: what is set, the later after the earlier; whether the other rows are written where a line has no
-- row or an input cannot be read; whether vectors of CVSS v3 may lack base metrics; by which score lines are ranked; which
-- rows are shown and fail; whether their numbers are printed in their place; whether rows of lines are objects, and the first
-- line of each input is its header; whether inputs have lines or records; which column of these has the vectors; whether
-- their cells are guarded; and which vector is ranked of a line that has several
pub record Asked : Type 0 where
  pub settings : List (SettingKind × List ℕ)
  pub keep_going : Bool
  pub allow_incomplete : Bool
  pub scoring : Scoring
  pub gate : Gate
  pub count : Bool
  pub json : Bool
  pub header : Bool
  pub form : Form
  pub column : Column
  pub guarded : Bool
  pub prefer : Option Preference

-- the same, as the code has it
abbrev pub asked_of : Triage → Asked
asked_of asked = record {
  settings = map as_words asked.settings.now;
  keep_going = asked.keep_going;
  allow_incomplete = asked.allow_incomplete;
  scoring = asked.scoring;
  gate = asked.gate;
  count = asked.count;
  json = asked.json;
  header = asked.header;
  form = asked.form;
  column = asked.column;
  guarded = asked.guarded;
  prefer = asked.prefer;
}

-- the texts of the settings are read, and give these overrides
pub record Gives (settings : List (SettingKind × List ℕ)) (old new : State) (texts : List SettingText) (overrides : List Override) : Type 0 where
  pub read : ReadsEach ReadsSetting settings old new texts
  pub are : map as_metrics overrides ≡ all_given texts

-- this is reported, and all else is as it was
pub record ReportsAlone (Is : Reported → Reported → Type 0) (old new : State) : Type 0 where
  pub reported : Is old.reported new.reported
  pub else_kept : new ≡ record old { reported = new.reported }

-- nothing is ranked or read of the operands, since a profile cannot be read or metrics hold for no version, which are
-- reported
pub record IsNotUnderstood (settings : List (SettingKind × List ℕ)) (old new : State) (text : List ℕ) (served : Served) : Type 0 where
  pub read : State
  pub texts : List SettingText
  pub overrides : List Override
  pub gives : Gives settings old read texts overrides
  pub reported : ReportsAlone (ReportsEach ReportsSetting texts) read new
  pub why : ¬ (AreUnderstood texts overrides)
  pub text_is : text ≡ []
  pub served_is : served ≡ after nothing_served (Err Read)

-- what triage comes to by which lines have no row and which inputs can be ranked
abbrev pub served_of : List BadLine → List Input → Served
served_of bad inputs = record { rejected = not (length bad == 0); unread = list_any is_unread inputs; stopped = None }

-- rows are shown, unless a line has none or an input is unread and triage is not to go on then
abbrev pub shows : Bool → Served → Bool
shows keep_going served = keep_going || not (served.rejected || served.unread)

-- how rows are written: those of lines in words or as objects, those of records as these are, all with the line end of the
-- first record of the first input
abbrev pub style_by : Form → Asked → List Input → Style
style_by Lines asked inputs = if asked.json then Objects asked.allow_incomplete else Words
style_by Records asked inputs = Table
    (record { scoring = asked.scoring; allow_incomplete = asked.allow_incomplete; guarded = asked.guarded; each = false })
    (is_crlf inputs)

abbrev pub style_of : Asked → List Input → Style
style_of asked inputs = style_by asked.form asked inputs

-- what is printed, by whether that is nothing, or numbers: these, or the rows that are shown, each in the style, after the
-- header if there is one
abbrev pub IsPrinted : Bool → Bool → Style → Option (List ℕ) → List ℕ → Bool → List (Vec ℕ) → Gate → Ranking → List ℕ → Type 0
IsPrinted true count style top starts many operands gate ranking text = text ≡ []
IsPrinted false true style top starts many operands gate ranking text = text ≡ count_text (tally_of gate ranking)
IsPrinted false false style top starts many operands gate ranking text =
    IsTable style top (IsRowText style starts many operands) (shown_rows gate ranking.rows.items) text

-- this is printed of the ranking, and triage comes to this, after what it comes to by what is read
pub record Prints (asked : Asked) (style : Style) (top : Option (List ℕ)) (starts : List ℕ) (many : Bool) (operands : List (Vec ℕ)) (ranking : Ranking) (read : Served)
    (text : List ℕ) (served : Served) : Type 0 where
  pub is_text : IsPrinted asked.gate.quiet asked.count style top starts many operands asked.gate ranking text
  pub served_is : served ≡ after_gate asked.gate ranking.rows.items read

-- the same if rows are shown, and otherwise nothing is printed
abbrev pub PrintsIf : Bool → Asked → Style → Option (List ℕ) → List ℕ → Bool → List (Vec ℕ) → Ranking → Served → List ℕ → Served → Type 0
PrintsIf true asked style top starts many operands ranking read text served = Prints asked style top starts many operands ranking read text served
PrintsIf false asked style top starts many operands ranking read text served = (text ≡ []) × (served ≡ read)

-- the lines or records of the inputs are ranked, and this is printed of the ranking, after the header of the first input if
-- there is one; those without a row are reported
pub record RanksLines (asked : Asked) (overrides : List Override) (operands : List (Vec ℕ)) (inputs : List Input)
    (report report' : Reported) (text : List ℕ) (served : Served) : Type 0 where
  pub ranking : Ranking
  pub is : IsRanking asked.prefer overrides asked.scoring asked.allow_incomplete (lines_of asked.form inputs) ranking
  pub reported : ReportsEach (ReportsBadLine asked.form (lines_of asked.form inputs) (starts_of asked.form inputs) (many_files operands) operands) ranking.bad.items report report'
  pub prints : PrintsIf (shows asked.keep_going (served_of ranking.bad.items inputs)) asked (style_of asked inputs) (first_header asked.form inputs)
      (starts_of asked.form inputs) (many_files operands) operands ranking (served_of ranking.bad.items inputs) text served

-- the inputs have these texts, if they are read; an input that lacks the column is reported, and the others are ranked
pub record IsRanked (asked : Asked) (overrides : List Override) (operands : List (Vec ℕ)) (texts : List (Option (Vec ℕ)))
    (report report' : Reported) (text : List ℕ) (served : Served) : Type 0 where
  pub inputs : List Input
  pub are : AllZip (IsInputOf asked.form asked.header asked.column) texts inputs
  pub missed : Reported
  pub misses : ReportsLacking (list_any lacks_column inputs) asked.column report missed
  pub ranks : RanksLines asked overrides operands inputs missed report' text served

-- all operands are read in turn after the settings, and their lines are ranked
pub record Ranks (asked : Asked) (operands : List (Vec ℕ)) (old new : State) (text : List ℕ) (served : Served) : Type 0 where
  pub set : State
  pub texts : List SettingText
  pub overrides : List Override
  pub gives : Gives asked.settings old set texts overrides
  pub understood : AreUnderstood texts overrides
  pub read : State
  pub inputs : List (Option (Vec ℕ))
  pub reads : ReadsEach ReadsInput (inputs_of operands) set read inputs
  pub ranked : ReportsAlone (λ report report'. IsRanked asked overrides operands inputs report report' text served) read new

-- what is to be written once all is read, and what triage comes to then
abbrev pub IsOutcome : Asked → List (Vec ℕ) → State → State → List ℕ → Served → Type 0
IsOutcome asked operands old new text served =
    Ranks asked operands old new text served ⊎ IsNotUnderstood asked.settings old new text served

-- the text is written, or a beginning of it where the writer fails
abbrev pub WritesOutcome : List ℕ → Served → Option (List ℕ) → Option (List ℕ) → Served → Type 0
WritesOutcome text served written written' served' =
    ((served' ≡ served) × Appends written written' text)
    ⊎ ((served' ≡ after served (Err Write)) × ((count : ℕ) × Appends written written' (take count text)))

-- the outcome is found, and then its text is written to what was written before
pub record Ends (asked : Asked) (operands : List (Vec ℕ)) (old new : State) (served : Served) : Type 0 where
  pub found : State
  pub text : List ℕ
  pub served_found : Served
  pub outcome : IsOutcome asked operands old found text served_found
  pub writes : WritesOutcome text served_found old.written new.written served
  pub reports_kept : new.reported ≡ found.reported
  pub unread_kept : new.unread ≡ found.unread

-- nothing is written where memory runs out, and nothing before all is read
abbrev pub Triages : Asked → List (Vec ℕ) → State → State → Served → Type 0
Triages asked operands old new served =
    Ends asked operands old new served
    ⊎ ((served ≡ after nothing_served (Err Memory)) × Keeps old.written new.written)
