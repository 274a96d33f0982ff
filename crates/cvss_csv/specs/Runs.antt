-- The answers to the records of a text, and what a run has read and written when it ends, well or with a fault.
use Rattle.std.specs.Prelude.{◌≡◌, ℕ, ◌-◌, ◌^◌, ◌⊎◌, min, not, Bool, false, List, [], ◌∷◌, flat_map, take, Option, ⊤, count_by, Result, IfOk, IsErrOf}
use Rattle.std.specs.Io.KnownBytes.{Appends, Consumes, IsAtEnd}
use Rattle.cvss_lines.specs.declared.fault.RunFault.TheVariants.{Read, Write, Memory}
use Rattle.cvss_lines.specs.declared.summary.Summary.{Summary}
use Rattle.cvss_csv.specs.Answers.{Answered, IsAnswerTo}
use Rattle.cvss_csv.specs.Layouts.{LacksColumn, SaysFirst}
use Rattle.cvss_csv.specs.Records.{Record, ended_records, records}
use Rattle.cvss_csv.specs.declared.asked.Asked.{Asked}
use Rattle.cvss_csv.specs.declared.asked.Cells.{Cells}
use Rattle.cvss_csv.specs.declared.asked.Column.{Column}
use Rattle.cvss_csv.specs.declared.fault.CsvFault.{CsvFault}
use Rattle.cvss_csv.specs.declared.fault.CsvFault.TheVariants.{Run, UnknownColumn}

-- ---- the answers

-- records that are no header have these answers, in their order
abbrev pub AreAnswers : Asked → Cells → List Record → List Answered → Type 0
AreAnswers asked cells [] [] = ⊤
AreAnswers asked cells [] (answer ∷ answers) = ⊥
AreAnswers asked cells (each ∷ more) [] = ⊥
AreAnswers asked cells (each ∷ more) (answer ∷ answers) =
    IsAnswerTo asked cells false each.body each.line_end answer × AreAnswers asked cells more answers

-- the records of a text have these answers, in their order
abbrev pub AreAllAnswers : Asked → Column → List Record → List Answered → Type 0
AreAllAnswers asked column [] [] = ⊤
AreAllAnswers asked column [] (answer ∷ answers) = ⊥
AreAllAnswers asked column (first ∷ more) [] = ⊥
AreAllAnswers asked column (first ∷ more) (answer ∷ answers) =
    (cells : Cells) × (is_header : Bool) × SaysFirst column first.body cells is_header
    × IsAnswerTo asked cells is_header first.body first.line_end answer × AreAnswers asked cells more answers

-- the bytes of the answers
abbrev pub answer_bytes : List Answered → List ℕ
answer_bytes answers = flat_map (λ answer. answer.bytes) answers

-- ---- how many records, or vectors of them, are accepted and rejected

-- what is counted of all answers
abbrev pub counted_in : List Answered → List Bool
counted_in answers = flat_map (λ answer. answer.counted) answers

-- how many are counted so, as a `u64` that stops at its maximum
abbrev pub saturating_count : (Bool → Bool) → List Bool → ℕ
saturating_count test counted = min (count_by test counted) (2 ^ 64 - 1)

-- how many of these are accepted, and how many rejected
abbrev pub summary_by : List Bool → Summary
summary_by counted = record {
  accepted = saturating_count (λ accepted. accepted) counted;
  rejected = saturating_count (λ accepted. not accepted) counted;
}

abbrev pub summary_of : List Answered → Summary
summary_of answers = summary_by (counted_in answers)

-- ---- how a run ends

-- all of the input is read, and exactly the answers to its records are written and counted
pub record AnswersAll (asked : Asked) (column : Column) (unread unread' written written' : Option (List ℕ)) (summary : Summary)
    : Type 0 where
  pub input : List ℕ
  pub answers : List Answered
  pub consumed : Consumes unread unread' input
  pub at_end : IsAtEnd unread'
  pub answered : AreAllAnswers asked column (records input) answers
  pub appended : Appends written written' (answer_bytes answers)
  pub counted : summary ≡ summary_of answers

-- exactly the answers to the records that a line feed ends in what was read are written
pub record AnswersEnded (asked : Asked) (column : Column) (unread unread' written written' : Option (List ℕ)) : Type 0 where
  pub input : List ℕ
  pub answers : List Answered
  pub consumed : Consumes unread unread' input
  pub answered : AreAllAnswers asked column (ended_records input) answers
  pub appended : Appends written written' (answer_bytes answers)

-- the whole answers to the first records of what was read are written
pub record AnswersFirst (asked : Asked) (column : Column) (unread unread' written written' : Option (List ℕ)) : Type 0 where
  pub input : List ℕ
  pub count : ℕ
  pub answers : List Answered
  pub consumed : Consumes unread unread' input
  pub answered : AreAllAnswers asked column (take count (ended_records input)) answers
  pub appended : Appends written written' (answer_bytes answers)

-- the records that a line feed ends in what was read, or all at the end of the input
pub record AreRead (unread unread' : Option (List ℕ)) (all : List Record) : Type 0 where
  pub input : List ℕ
  pub consumed : Consumes unread unread' input
  pub are : (all ≡ ended_records input) ⊎ (IsAtEnd unread' × (all ≡ records input))

-- a beginning of the answers to what was read is written
pub record AnswersCut (asked : Asked) (column : Column) (unread unread' written written' : Option (List ℕ)) : Type 0 where
  pub all : List Record
  pub are_read : AreRead unread unread' all
  pub answers : List Answered
  pub count : ℕ
  pub answered : AreAllAnswers asked column all answers
  pub appended : Appends written written' (take count (answer_bytes answers))

-- the first record that was read lacks the column, and nothing is written
pub record AnswersNothing (column : Column) (unread unread' written written' : Option (List ℕ)) : Type 0 where
  pub all : List Record
  pub are_read : AreRead unread unread' all
  pub lacks : LacksColumn column all
  pub appended : Appends written written' []

-- how a run ends: well, or with a fault of the reader, of memory, of the writer or of the input
pub record Ends (asked : Asked) (column : Column) (unread unread' written written' : Option (List ℕ))
    (outcome : Result Summary CsvFault) : Type 0 where
  pub answered : IfOk outcome (AnswersAll asked column unread unread' written written')
  pub read_fault : IsErrOf outcome (Run Read) → AnswersEnded asked column unread unread' written written'
  pub memory_fault : IsErrOf outcome (Run Memory) → AnswersFirst asked column unread unread' written written'
  pub write_fault : IsErrOf outcome (Run Write) → AnswersCut asked column unread unread' written written'
  pub unknown_column : IsErrOf outcome UnknownColumn → AnswersNothing column unread unread' written written'
