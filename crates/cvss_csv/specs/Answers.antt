-- The answer to a record: its bytes, and six cells after them; or a row for each of its vectors.
use Rattle.std.specs.Prelude.{◌≡◌, ◌⊎◌, ℕ, Bool, true, false, List, [], ◌∷◌, ◌++◌, codes, drop, map, take, Option, None, Some, if◌then◌else◌}
use Rattle.std.specs.Str.{IsTrimAscii}
use Rattle.cvss_matches.specs.Matches.{AreFound, Candidate, candidates_of}
use Rattle.cvss_csv.specs.Cells.{AreAllEqual, AreCells, IsReadAs, Names, Nothing, Reason, Verdict, counted_as}
use Rattle.cvss_csv.specs.Fields.{fields, quote, value}
use Rattle.cvss_csv.specs.Guards.{shown_record}
use Rattle.cvss_csv.specs.Records.{is_open}
use Rattle.cvss_csv.specs.Rows.{AreDifferent, AreRows, WrittenRow, rows_text}
use Rattle.cvss_csv.specs.declared.asked.Asked.{Asked}
use Rattle.cvss_csv.specs.declared.asked.Cells.{Cells}
use Rattle.cvss_csv.specs.declared.asked.Cells.TheVariants.{Any, At}

-- these are the texts of the vectors that are found in a value, in their order
pub record AreTextsIn (searched : List ℕ) (texts : List (List ℕ)) : Type 0 where
  pub found : List Candidate
  pub are_found : AreFound (candidates_of searched) found
  pub are : texts ≡ map (λ each. each.text) found

-- in the values of some fields
abbrev pub AreTextsOf : List (List ℕ) → List (List ℕ) → Type 0
AreTextsOf [] texts = texts ≡ []
AreTextsOf (field ∷ more) texts =
    (own : List (List ℕ)) × (others : List (List ℕ)) × AreTextsIn (value field) own × AreTextsOf more others × (texts ≡ own ++ others)

-- the fields that are searched: all, or the one at this index, counted from 0, if there is one
abbrev pub searched : Cells → List (List ℕ) → List (List ℕ)
searched Any all = all
searched (At index) all = take 1 (drop index all)

-- a cell in which no vector is found is read as one, without the blanks around it, or is empty
abbrev pub IsCellAs : Bool → List ℕ → Verdict → Type 0
IsCellAs allow_incomplete [] verdict = verdict ≡ Nothing
IsCellAs allow_incomplete (byte ∷ bytes) verdict = IsReadAs allow_incomplete (byte ∷ bytes) verdict

-- a value in which no vector is found
pub record IsTrimmed (allow_incomplete : Bool) (whole : List ℕ) (verdict : Verdict) : Type 0 where
  pub text : List ℕ
  pub trimmed : IsTrimAscii whole text
  pub is : IsCellAs allow_incomplete text verdict

-- a cell that a record may lack
abbrev pub IsCellOf : Bool → List (List ℕ) → Verdict → Type 0
IsCellOf allow_incomplete [] verdict = verdict ≡ Nothing
IsCellOf allow_incomplete (field ∷ more) verdict = IsTrimmed allow_incomplete (value field) verdict

-- where no vector is found
abbrev pub IsWithout : Bool → Cells → List (List ℕ) → Verdict → Type 0
IsWithout allow_incomplete Any all verdict = verdict ≡ Reason (codes "no vector")
IsWithout allow_incomplete (At index) all verdict = IsCellOf allow_incomplete (searched (At index) all) verdict

-- by the texts of the vectors that are found: equal ones count once
abbrev pub IsVerdictBy : Bool → Cells → List (List ℕ) → List (List ℕ) → Verdict → Type 0
IsVerdictBy allow_incomplete cells all [] verdict = IsWithout allow_incomplete cells all verdict
IsVerdictBy allow_incomplete cells all (first ∷ more) verdict =
    (AreAllEqual first more × IsReadAs allow_incomplete first verdict)
    ⊎ (¬ (AreAllEqual first more) × (verdict ≡ Reason (codes "several vectors")))

-- of a record by its fields
pub record IsVerdictOn (allow_incomplete : Bool) (cells : Cells) (all : List (List ℕ)) (verdict : Verdict) : Type 0 where
  pub texts : List (List ℕ)
  pub are_texts : AreTextsOf (searched cells all) texts
  pub is : IsVerdictBy allow_incomplete cells all texts verdict

-- of a record by whether its last field is not closed, and whether it is a header
abbrev pub IsVerdictOf : (is_open is_header allow_incomplete : Bool) → Cells → List ℕ → Verdict → Type 0
IsVerdictOf true is_header allow_incomplete cells body verdict = verdict ≡ Reason (codes "a quoted field is not closed")
IsVerdictOf false true allow_incomplete cells body verdict = verdict ≡ Names
IsVerdictOf false false allow_incomplete cells body verdict = IsVerdictOn allow_incomplete cells (fields body) verdict

-- ---- the bytes of the answer

-- the quote that closes the last field of a record where it is not closed
abbrev pub closing : List ℕ → List ℕ
closing body = if is_open body then quote ∷ [] else []

-- the bytes of a record's answer, and what is counted: for each vector whether it is accepted, and a record without one that
-- is rejected
pub record Answered : Type 0 where
  pub bytes : List ℕ
  pub counted : List Bool

-- what is counted of a record that is answered once
abbrev pub counted_once : Option Bool → List Bool
counted_once None = []
counted_once (Some accepted) = accepted ∷ []

-- the record, the cells after it, and its line end
pub record IsAnswer (asked : Asked) (cells : Cells) (is_header : Bool) (body line_end : List ℕ) (answered : Answered) : Type 0 where
  pub verdict : Verdict
  pub is : IsVerdictOf (is_open body) is_header asked.allow_incomplete cells body verdict
  pub appended : List ℕ
  pub are : AreCells asked verdict appended
  pub bytes : answered.bytes ≡ shown_record asked.guarded body ++ (closing body ++ (appended ++ line_end))
  pub counts : answered.counted ≡ counted_once (counted_as verdict)

-- the answer where a record has one: an empty record stays as it is
abbrev pub IsOneAnswer : Asked → Cells → Bool → List ℕ → List ℕ → Answered → Type 0
IsOneAnswer asked cells is_header [] line_end answered = answered ≡ record { bytes = line_end; counted = [] }
IsOneAnswer asked cells is_header (byte ∷ bytes) line_end answered = IsAnswer asked cells is_header (byte ∷ bytes) line_end answered

-- a row for each vector that is found, of those that count as one for the first
pub record HasRows (asked : Asked) (cells : Cells) (body line_end : List ℕ) (answered : Answered) : Type 0 where
  pub texts : List (List ℕ)
  pub are_texts : AreTextsOf (searched cells (fields body)) texts
  pub different : List (List ℕ)
  pub are_different : AreDifferent [] texts different
  pub rows : List WrittenRow
  pub are_rows : AreRows asked body line_end different rows
  pub bytes : answered.bytes ≡ rows_text line_end rows
  pub counts : answered.counted ≡ map (λ row. row.accepted) rows

-- where each vector has a row: a header, and a record whose last field is not closed, have one answer
abbrev pub IsEachAnswer : (is_open is_header : Bool) → Asked → Cells → List ℕ → List ℕ → Answered → Type 0
IsEachAnswer true is_header asked cells body line_end answered = IsAnswer asked cells is_header body line_end answered
IsEachAnswer false true asked cells body line_end answered = IsAnswer asked cells true body line_end answered
IsEachAnswer false false asked cells body line_end answered = HasRows asked cells body line_end answered

-- by whether each vector has a row of its own. An empty record is not written then.
abbrev pub IsAnswerBy : (each : Bool) → Asked → Cells → Bool → List ℕ → List ℕ → Answered → Type 0
IsAnswerBy false asked cells is_header body line_end answered = IsOneAnswer asked cells is_header body line_end answered
IsAnswerBy true asked cells is_header [] line_end answered = answered ≡ record { bytes = []; counted = [] }
IsAnswerBy true asked cells is_header (byte ∷ bytes) line_end answered =
    IsEachAnswer (is_open (byte ∷ bytes)) is_header asked cells (byte ∷ bytes) line_end answered

abbrev pub IsAnswerTo : Asked → Cells → Bool → List ℕ → List ℕ → Answered → Type 0
IsAnswerTo asked cells is_header body line_end answered = IsAnswerBy asked.each asked cells is_header body line_end answered
