-- The state of a run between two steps, and what its private code does in each. No public clause cites it.
use Rattle.std.specs.Prelude.{◌≡◌, ℕ, ◌⊎◌, Bool, false, List, [], ◌∷◌, ◌++◌, Option, None, Some}
use Rattle.cvss_lines.specs.Lines.{last_piece}
use Rattle.cvss_lines.specs.declared.fault.RunFault.TheVariants.{Memory}
use Rattle.cvss_csv.specs.Answers.{Answered, IsAnswerTo}
use Rattle.cvss_csv.specs.Fields.{fields, state_after}
use Rattle.cvss_csv.specs.Layouts.{LacksColumn, SaysFirst, cells_by}
use Rattle.cvss_csv.specs.Records.{Record, ended_records, pieces, records}
use Rattle.cvss_csv.specs.Runs.{AreAllAnswers, answer_bytes, summary_of}
use Rattle.cvss_csv.specs.declared.asked.Asked.{Asked}
use Rattle.cvss_csv.specs.declared.asked.Cells.{Cells}
use Rattle.cvss_csv.specs.declared.asked.Column.{Column}
use Rattle.cvss_csv.specs.declared.fault.CsvFault.{CsvFault}
use Rattle.cvss_csv.specs.declared.fault.CsvFault.TheVariants.{Run, UnknownColumn}
use Rattle.cvss_csv.specs.declared.pending.Pending.{Pending}
use Rattle.cvss_csv.specs.declared.state.State.TheVariants.{Start}
use Rattle.cvss_csv.specs.declared.progress.Progress.{Progress}
use Rattle.cvss_csv.specs.private.Counting.{CountsAll}

-- one more record is answered so, of which it is known which cells are searched
pub record AnswersAs (IsIt : Answered → Type 0) (old new : Progress) : Type 0 where
  pub answered : Answered
  pub is_answer : IsIt answered
  pub written : new.answers.bytes.items ≡ old.answers.bytes.items ++ answered.bytes
  pub counts : CountsAll old.summary answered.counted new.summary
  pub asked : new.answerer.asked ≡ old.answerer.asked
  pub known : new.cells ≡ old.cells

abbrev pub AnswersNext : Cells → Bool → List ℕ → List ℕ → Progress → Progress → Type 0
AnswersNext cells is_header body line_end old new = AnswersAs (IsAnswerTo old.answerer.asked cells is_header body line_end) old new

-- the first record, which says which cells are searched, or another
abbrev pub IsKnownBy : Column → List ℕ → Option Cells → Cells → Bool → Type 0
IsKnownBy column body None cells is_header = SaysFirst column body cells is_header
IsKnownBy column body (Some known) cells is_header = (cells ≡ known) × (is_header ≡ false)

-- one more record is answered
pub record AnswersRecord (column : Column) (body line_end : List ℕ) (old new : Progress) : Type 0 where
  pub cells : Cells
  pub is_header : Bool
  pub by : IsKnownBy column body old.cells cells is_header
  pub answered : Answered
  pub is_answer : IsAnswerTo old.answerer.asked cells is_header body line_end answered
  pub written : new.answers.bytes.items ≡ old.answers.bytes.items ++ answered.bytes
  pub counts : CountsAll old.summary answered.counted new.summary
  pub asked : new.answerer.asked ≡ old.answerer.asked
  pub known : new.cells ≡ Some cells

-- why a record is not answered: memory is refused, or it is the first and lacks the column
abbrev pub CannotAnswer : Column → List ℕ → Progress → CsvFault → Type 0
CannotAnswer column body old fault = (fault ≡ Run Memory)
    ⊎ ((fault ≡ UnknownColumn) × (old.cells ≡ None) × (cells_by column (fields body) ≡ None))

-- which cells are searched is known after the first record
abbrev pub IsKnown : Column → List Record → Option Cells → Type 0
IsKnown column [] known = known ≡ None
IsKnown column (first ∷ more) known = (cells : Cells) × (known ≡ Some cells) × (cells_by column (fields first.body) ≡ Some cells)

-- the answers to the first records are written or wait, and are counted
pub record HasAnswered (asked : Asked) (column : Column) (written : List ℕ) (done : List Record) (progress : Progress) : Type 0 where
  pub answers : List Answered
  pub answered : AreAllAnswers asked column done answers
  pub together : written ++ progress.answers.bytes.items ≡ answer_bytes answers
  pub counted : progress.summary ≡ summary_of answers
  pub is_asked : progress.answerer.asked ≡ asked
  pub is_known : IsKnown column done progress.cells

-- why the next of some records is not answered
abbrev pub Stops : Column → List Record → CsvFault → Type 0
Stops column all fault = (fault ≡ Run Memory) ⊎ ((fault ≡ UnknownColumn) × LacksColumn column all)

-- what follows the last line feed outside quotes
abbrev pub unended_piece : List ℕ → List ℕ
unended_piece text = last_piece (pieces text)

-- the records that a line feed ends in what was read are answered, and what follows them is kept
pub record Awaits (asked : Asked) (column : Column) (written read : List ℕ) (pending : Pending) : Type 0 where
  pub has_answered : HasAnswered asked column written (ended_records read) pending.progress
  pub kept : pending.cut.items ≡ unended_piece read
  pub state_is : state_after Start read ≡ pending.state

-- this chunk of the input is read after whatever was
abbrev pub Reads : Column → List ℕ → Pending → Pending → Type 0
Reads column chunk old new = (asked : Asked) → (written read : List ℕ)
    → Awaits asked column written read old → Awaits asked column written (read ++ chunk) new

-- a fault before the records of this chunk were answered
abbrev pub StopsReading : Column → List ℕ → Pending → CsvFault → Type 0
StopsReading column chunk old fault = (asked : Asked) → (written read : List ℕ)
    → Awaits asked column written read old → Stops column (ended_records (read ++ chunk)) fault

-- all records of an input that has ended are answered
abbrev pub EndsInput : Column → Pending → Pending → Type 0
EndsInput column old new = (asked : Asked) → (written read : List ℕ)
    → Awaits asked column written read old → HasAnswered asked column written (records read) new.progress

-- a fault before all records of an input that has ended were answered
abbrev pub StopsEnding : Column → Pending → CsvFault → Type 0
StopsEnding column old fault = (asked : Asked) → (written read : List ℕ)
    → Awaits asked column written read old → Stops column (records read) fault
