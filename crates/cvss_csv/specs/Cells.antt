-- The six cells that answer a record: the vector that is found, or why there is none.
use Rattle.std.specs.Prelude.{◌≡◌, ◌⊎◌, ℕ, Bool, true, false, List, [], ◌∷◌, ◌++◌, codes, Option, None, Some, ⊤}
use Rattle.cvss_base.specs.SeverityText.{text_of as severity_text}
use Rattle.cvss_base.specs.Tenths.{tenths_text}
use Rattle.cvss_vector.specs.Answers.{score_of_tenths, severity_by, text_of}
use Rattle.cvss_vector.specs.Complete.{IsReadErrorBy}
use Rattle.cvss_vector.specs.Dispatch.{DenotesCvss}
use Rattle.cvss_vector.specs.Lines.{IsVectorOf}
use Rattle.cvss_vector.specs.Reasons.{error_message}
use Rattle.cvss_vector.specs.Scores.{IsGroupScore, IsScoreAs, version_of, version_text}
use Rattle.cvss_vector.specs.declared.group.Group.TheVariants.{Base}
use Rattle.cvss_vector.specs.declared.rejection.ReadError.{ReadError}
use Rattle.cvss_vector.specs.declared.vector.Cvss.{Cvss}
use Rattle.cvss_csv.specs.Quoting.{field_of}
use Rattle.cvss_csv.specs.declared.asked.Asked.{Asked}

-- the texts denote vectors with one canonical text
pub record DenoteOneVector (one other : List ℕ) : Type 0 where
  pub first : Cvss
  pub second : Cvss
  pub denoted : DenotesCvss one first
  pub also : DenotesCvss other second
  pub same : text_of first ≡ text_of second

-- the texts count as one vector
abbrev pub AreEqual : List ℕ → List ℕ → Type 0
AreEqual one other = (one ≡ other) ⊎ DenoteOneVector one other

-- all of these do with the first
abbrev pub AreAllEqual : List ℕ → List (List ℕ) → Type 0
AreAllEqual first [] = ⊤
AreAllEqual first (text ∷ texts) = AreEqual first text × AreAllEqual first texts

-- the names of the columns, nothing, a vector, or why there is none
pub data Verdict : Type 0 where
  Names Nothing : Verdict
  VectorIs : Cvss → Verdict
  Reason : List ℕ → Verdict

-- the text of a vector is read: the vector, which lacks no base metric unless it may, or why the text is rejected
abbrev pub IsReadAs : Bool → List ℕ → Verdict → Type 0
IsReadAs allow_incomplete text Names = ⊥
IsReadAs allow_incomplete text Nothing = ⊥
IsReadAs allow_incomplete text (VectorIs cvss) = IsVectorOf allow_incomplete text cvss
IsReadAs allow_incomplete text (Reason reason) =
    (error : ReadError) × IsReadErrorBy allow_incomplete text error × (reason ≡ error_message error)

-- the canonical vector, its version, a score and its severity, the base score, and no error
pub record AreVectorCells (asked : Asked) (cvss : Cvss) (cells : List ℕ) : Type 0 where
  pub tenths : ℕ
  pub scored : IsScoreAs asked.scoring cvss (score_of_tenths tenths)
  pub base : ℕ
  pub is_base : IsGroupScore cvss Base (score_of_tenths base)
  pub are : cells ≡ codes "," ++ (text_of cvss ++ (codes "," ++ (version_text (version_of cvss) ++ (codes ","
      ++ (tenths_text tenths ++ (codes "," ++ (severity_text (severity_by cvss (score_of_tenths tenths)) ++ (codes ","
      ++ (tenths_text base ++ codes ",")))))))))

-- the names of the six columns, each after a comma
abbrev pub names : List ℕ
names = codes ",vector,version,score,severity,base,error"

abbrev pub AreCells : Asked → Verdict → List ℕ → Type 0
AreCells asked Names cells = cells ≡ names
AreCells asked Nothing cells = cells ≡ codes ",,,,,,"
AreCells asked (VectorIs cvss) cells = AreVectorCells asked cvss cells
AreCells asked (Reason reason) cells = cells ≡ codes ",,,,,," ++ field_of reason

-- whether a record is counted as accepted or rejected, if it is
abbrev pub counted_as : Verdict → Option Bool
counted_as Names = None
counted_as Nothing = None
counted_as (VectorIs cvss) = Some true
counted_as (Reason reason) = Some false
