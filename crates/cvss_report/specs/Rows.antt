-- The row of a line: CVSS v2 guide, section 3.2; v3.1 specification, section 7; v4.0 specification, section 8.
use Rattle.std.specs.Prelude.{◌≡◌, ℕ, Bool, List, [], ◌∷◌, ◌++◌, codes, flat_map, if◌then◌else◌, Option, None, Some}
use Rattle.std.specs.Str.{IsUtf8}
use Rattle.cvss_vector.specs.Answers.{text_of}
use Rattle.cvss_vector.specs.Complete.{IsReadErrorBy, missing_by}
use Rattle.cvss_vector.specs.Dispatch.{DenotesCvss}
use Rattle.cvss_vector.specs.Evaluation.{IsEvaluation, version_text}
use Rattle.cvss_vector.specs.Reasons.{error_message}
use Rattle.cvss_vector.specs.declared.evaluation.Evaluation.{Evaluation}
use Rattle.cvss_vector.specs.declared.evaluation.Rated.{Rated}
use Rattle.cvss_vector.specs.declared.rejection.ReadError.{ReadError}
use Rattle.cvss_vector.specs.declared.vector.Cvss.{Cvss}
use Rattle.cvss_vector.specs.declared.vector.Cvss.TheVariants.{CvssV20, CvssV30, CvssV31, CvssV40}
use Rattle.cvss_base.specs.SeverityText.{text_of as severity_text}
use Rattle.cvss_base.specs.Tenths.{tenths_text}
use Rattle.cvss_lines.specs.Answers.{Rule, by_one_text}
use Rattle.cvss_lines.specs.Prefixed.{IsPrefixed}
use Rattle.cvss_vector.specs.v4.Nomenclature as nomenclature
use Rattle.cvss_report.specs.Cells.{Cell, Nothing, Words, AnyText, Number, before_cell, cell_text, closing, given_text, opening}
use Rattle.cvss_report.specs.declared.format.Format.{Format}
use Rattle.cvss_report.specs.declared.format.Format.TheVariants.{GuardedTsv, Tsv}

-- a score of so many tenths
abbrev pub score_cell : ℕ → Cell
score_cell tenths = Number (tenths_text tenths)

-- a score that the version has or not
abbrev pub optional_cell : Option Rated → Cell
optional_cell None = Nothing
optional_cell (Some rated) = score_cell rated.tenths

-- the groups of metrics that a score of CVSS v4.0 counts: v4.0 specification, section 1.3
abbrev pub nomenclature_cell : Cvss → Cell
nomenclature_cell (CvssV20 _) = Nothing
nomenclature_cell (CvssV30 _) = Nothing
nomenclature_cell (CvssV31 _) = Nothing
nomenclature_cell (CvssV40 vector) = Words (nomenclature.text_of (nomenclature.nomenclature_of vector))

-- the names of columns, and their cells
abbrev pub Fields : Type 0
Fields = List (List ℕ × Cell)

abbrev pub field_text : Format → List ℕ × Cell → List ℕ
field_text format field = before_cell format field.0 ++ cell_text format field.1

-- what follows the given text in a row
abbrev pub cells_text : Format → Fields → List ℕ
cells_text format fields = flat_map (field_text format) fields ++ closing format

-- the fields of a row after the given text
abbrev pub fields_of : Cell → Cell → Cell → Cell → Cell → Cell → Cell → Cell → Cell → Fields
fields_of vector version base temporal environmental score severity nomenclature error =
    (codes "vector", vector) ∷ (codes "version", version) ∷ (codes "base", base) ∷ (codes "temporal", temporal)
    ∷ (codes "environmental", environmental) ∷ (codes "score", score) ∷ (codes "severity", severity)
    ∷ (codes "nomenclature", nomenclature) ∷ (codes "error", error) ∷ []

-- the fields of a vector that has a score: its text, its version, the scores of its groups (of CVSS v4.0, whose base score
-- is that of CVSS-B, there are no others), its score with all metrics in it, the severity of that score and the nomenclature
pub record AreFields (vector : Cvss) (fields : Fields) : Type 0 where
  pub scores : Evaluation
  pub are_scores : IsEvaluation vector scores
  pub are : fields ≡ fields_of (Words (text_of vector)) (Words (version_text scores.version)) (score_cell scores.base.tenths)
      (optional_cell scores.temporal) (optional_cell scores.environmental) (score_cell scores.overall.tenths)
      (Words (severity_text scores.overall.severity)) (nomenclature_cell vector) Nothing

-- the fields of a line that is rejected for this reason
abbrev pub rejected_fields : List ℕ → Fields
rejected_fields reason = fields_of Nothing Nothing Nothing Nothing Nothing Nothing Nothing Nothing (AnyText reason)

-- the line is a text that denotes a vector, which lacks no base metric unless it may, and this follows it in its row
pub record AreVectorCells (format : Format) (allow_incomplete : Bool) (line text : List ℕ) : Type 0 where
  pub utf8 : IsUtf8 line
  pub vector : Cvss
  pub denoted : DenotesCvss line vector
  pub complete : missing_by allow_incomplete vector ≡ None
  pub fields : Fields
  pub are : AreFields vector fields
  pub is : text ≡ cells_text format fields

-- the line is the text of no vector, or of one that lacks base metrics and may not, and the first reason follows it in its row
pub record AreErrorCells (format : Format) (allow_incomplete : Bool) (line text : List ℕ) : Type 0 where
  pub error : ReadError
  pub is_right : IsReadErrorBy allow_incomplete line error
  pub is : text ≡ cells_text format (rejected_fields (error_message error))

-- what follows the line in its row: one text
abbrev pub cells_rule : Format → Bool → Rule
cells_rule format allow_incomplete =
    by_one_text (λ number. AreVectorCells format allow_incomplete) (λ number. AreErrorCells format allow_incomplete)

-- this is an answer to the line, which is read of an input whose answers have a prefix or an empty one: one row, whose first
-- column has the name of the file or not
unfoldable pub IsRow : Format → Bool → Bool → List ℕ → Rule
IsRow format named allow_incomplete prefix number line =
    IsPrefixed (opening format named prefix ++ given_text format line) (cells_rule format allow_incomplete) number line

-- values with tabs between them, guarded or not
abbrev pub tsv_of : Bool → Format
tsv_of guarded = if guarded then GuardedTsv else Tsv

-- the names of the columns, where there are several files or not
abbrev pub header_text : Bool → List ℕ
header_text many =
    (if many then codes "file\t" else [])
    ++ codes "given\tvector\tversion\tbase\ttemporal\tenvironmental\tscore\tseverity\tnomenclature\terror\n"
