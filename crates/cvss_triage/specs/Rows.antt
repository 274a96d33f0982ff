-- How rows are written.
use Rattle.std.specs.Prelude.{◌≡◌, ℕ, Bool, List, [], ◌∷◌, ◌++◌, codes, if◌then◌else◌, Option, None, Some}
use Rattle.std.specs.Fmt.{decimal}
use Rattle.std.specs.Global.{Vec}
use Rattle.cvss_base.specs.SeverityText.{text_of as severity_text}
use Rattle.cvss_base.specs.Tenths.{tenths_text}
use Rattle.cvss_csv.specs.Cells.{AreVectorCells, names}
use Rattle.cvss_csv.specs.Guards.{shown_record}
use Rattle.cvss_csv.specs.declared.asked.Asked as csv
use Rattle.cvss_vector.specs.Answers.{severity_by, score_of_tenths, text_of}
use Rattle.cvss_lines.specs.Answers.{WritesAnswer}
use Rattle.cvss_report.specs.Cells.{given_text}
use Rattle.cvss_report.specs.Rows.{cells_rule}
use Rattle.cvss_report.specs.declared.format.Format.TheVariants.{Json}
use Rattle.cvss_triage.specs.Locations.{IsAt}
use Rattle.cvss_triage.specs.declared.row.Row.{Row}
use Rattle.cvss_triage.specs.declared.style.Style.{Style}
use Rattle.cvss_triage.specs.declared.style.Style.TheVariants.{Words, Objects, Table}

-- the score, its severity and the vector after the overrides
abbrev pub scored_text : Row → List ℕ
scored_text row =
    tenths_text row.tenths ++ (codes " " ++ (severity_text (severity_by row.vector (score_of_tenths row.tenths))
    ++ (codes " " ++ text_of row.vector)))

-- these, and after a tab the line as it was given
abbrev pub row_text : Row → List ℕ
row_text row = scored_text row ++ (codes "\t" ++ (row.line.now ++ codes "\n"))

-- the member that says a line's file, if that is named
abbrev pub file_member : Option (List ℕ) → List ℕ
file_member None = []
file_member (Some name) = codes "\"file\":" ++ (given_text Json name ++ codes ",")

-- the members of a row's object before those of its vector: the line's file, if that is named, its number there, and the line
abbrev pub first_members : Option (List ℕ) → ℕ → List ℕ → List ℕ
first_members name number line =
    codes "{" ++ (file_member name ++ (codes "\"line\":" ++ (decimal number ++ (codes ",\"text\":" ++ given_text Json line))))

-- the row's object: these members, and what `cvss score --json` answers to the vector after the overrides, after its given
-- text
pub record IsObject (allow_incomplete : Bool) (starts : List ℕ) (many : Bool) (operands : List (Vec ℕ)) (row : Row) (text : List ℕ) : Type 0 where
  pub name : Option (List ℕ)
  pub within : ℕ
  pub at : IsAt starts many operands row.number name within
  pub accepted : Bool
  pub written : WritesAnswer (cells_rule Json allow_incomplete) within (text_of row.vector) (first_members name within row.line.now) text accepted

-- the line end of a row of a table
abbrev pub row_end : Bool → List ℕ
row_end crlf = if crlf then 13 ∷ 10 ∷ [] else 10 ∷ []

-- the row of a table: the record as it is or guarded, and the six cells of its vector after the overrides
pub record IsTableRow (asked : csv.Asked) (crlf : Bool) (row : Row) (text : List ℕ) : Type 0 where
  pub cells : List ℕ
  pub are_cells : AreVectorCells asked row.vector cells
  pub is : text ≡ shown_record asked.guarded row.line.now ++ (cells ++ row_end crlf)

-- the row as it is written
abbrev pub IsRowText : Style → List ℕ → Bool → List (Vec ℕ) → Row → List ℕ → Type 0
IsRowText Words starts many operands row text = text ≡ row_text row
IsRowText (Objects allow_incomplete) starts many operands row text = IsObject allow_incomplete starts many operands row text
IsRowText (Table asked crlf) starts many operands row text = IsTableRow asked crlf row text

-- a header: after the names of what is before the line in each row, or before those of the six cells
abbrev pub header_line : Style → List ℕ → List ℕ
header_line Words header = codes "score severity vector\t" ++ (header ++ codes "\n")
header_line (Objects allow_incomplete) header = []
header_line (Table asked crlf) header = shown_record asked.guarded header ++ (names ++ row_end crlf)

-- no header has no text
abbrev pub header_text : Style → Option (List ℕ) → List ℕ
header_text style None = []
header_text style (Some header) = header_line style header

-- rows one after another, each as the first says
abbrev pub AreRowTexts : (Row → List ℕ → Type 0) → List Row → List ℕ → Type 0
AreRowTexts IsText [] text = text ≡ []
AreRowTexts IsText (row ∷ rows) text =
    (first : List ℕ) × (more : List ℕ) × (text ≡ first ++ more) × IsText row first × AreRowTexts IsText rows more

-- such rows, after a header if there is one
pub record IsTable (style : Style) (header : Option (List ℕ)) (IsText : Row → List ℕ → Type 0) (rows : List Row) (text : List ℕ) : Type 0 where
  pub texts : List ℕ
  pub are_texts : AreRowTexts IsText rows texts
  pub is : text ≡ header_text style header ++ texts
