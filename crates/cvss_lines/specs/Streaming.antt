-- Answers of which a beginning may be written before the whole is known, and how a run ends over lines that are
-- answered so. Lines are numbered from 1.
use Rattle.std.specs.Prelude.{◌≡◌, ◌≢◌, ℕ, ◌⊎◌, Bool, List, [], ◌∷◌, ◌++◌, take, Option, Result, IfOk, IsErrOf}
use Rattle.std.specs.Io.KnownBytes.{Appends, Consumes, IsAtEnd, Keeps}
use Rattle.cvss_lines.specs.Answers.{Answer, IsAnswers, Rule, is_accepted, number_after, written_answer, written_answers}
use Rattle.cvss_lines.specs.Lines.{ended_lines, lines as all_lines}
use Rattle.cvss_lines.specs.Runs.{AnswersAll, AnswersCut, AnswersEnded, AnswersFirst}
use Rattle.cvss_lines.specs.declared.fault.RunFault.{RunFault}
use Rattle.cvss_lines.specs.declared.fault.RunFault.TheVariants.{Read, Write, Memory}
use Rattle.cvss_lines.specs.declared.summary.Summary.{Summary}

-- which bytes may be written of the answer to a line of some number before the rest of it is known
abbrev pub Beginning : Type 1
Beginning = ℕ → List ℕ → List ℕ → Type 0

-- what waited is written or waits still
abbrev pub WritesWaiting : List ℕ → List ℕ → Option (List ℕ) → Option (List ℕ) → Type 0
WritesWaiting old new written written' = ((new ≡ old) × Keeps written written') ⊎ ((new ≡ []) × Appends written written' old)

-- nothing is written of the answer to the line, or all that waited and a beginning of it
abbrev pub IsPassed : Beginning → ℕ → List ℕ → List ℕ → List ℕ → Type 0
IsPassed beginning number line old passed =
    (passed ≡ []) ⊎ ((begun : List ℕ) × beginning number line begun × (passed ≡ old ++ begun))

-- the line is answered: the answer follows what waited, of which some may be written, and whether it accepts
-- is reported
pub record Streams (rule : Rule) (beginning : Beginning) (number : ℕ) (line old new : List ℕ)
    (written written' : Option (List ℕ)) (accepted : Bool) : Type 0 where
  pub answer : Answer
  pub answers : rule number line answer
  pub reported : accepted ≡ is_accepted answer
  pub passed : List ℕ
  pub is_passed : IsPassed beginning number line old passed
  pub appended : Appends written written' passed
  pub together : passed ++ new ≡ old ++ written_answer answer

-- where memory was refused in the midst of a line, some of its answer may be written
pub record LacksMemory (beginning : Beginning) (number : ℕ) (line old : List ℕ) (written written' : Option (List ℕ))
    : Type 0 where
  pub passed : List ℕ
  pub is_passed : IsPassed beginning number line old passed
  pub appended : Appends written written' passed

-- where a write failed in the midst of a line, a part is written of what waited and of a beginning of its answer
pub record FailsToWrite (beginning : Beginning) (number : ℕ) (line old : List ℕ) (written written' : Option (List ℕ))
    : Type 0 where
  pub begun : List ℕ
  pub begins : beginning number line begun
  pub count : ℕ
  pub appended : Appends written written' (take count (old ++ begun))

-- a fault in the midst of a line
pub record Stops (beginning : Beginning) (number : ℕ) (line old : List ℕ) (written written' : Option (List ℕ))
    (fault : RunFault) : Type 0 where
  pub no_read : fault ≢ Read
  pub memory : fault ≡ Memory → LacksMemory beginning number line old written written'
  pub write : fault ≡ Write → FailsToWrite beginning number line old written written'

-- the bytes are the answers to some of the lines, of which the first has this number, and a beginning of the answer
-- to the line after those
pub record AreBegun (rule : Rule) (beginning : Beginning) (number : ℕ) (lines : List (List ℕ)) (bytes : List ℕ) : Type 0 where
  pub front : List (List ℕ)
  pub line : List ℕ
  pub back : List (List ℕ)
  pub split : lines ≡ front ++ line ∷ back
  pub answers : List Answer
  pub answered : IsAnswers rule number front answers
  pub begun : List ℕ
  pub begins : beginning (number_after number front) line begun
  pub are : bytes ≡ written_answers answers ++ begun

-- the bytes end in the midst of the answer to a line that a byte 10 ends in what was read, or of the last one at the
-- end of the input
pub record EndsWithin (rule : Rule) (beginning : Beginning) (unread unread' : Option (List ℕ)) (bytes : List ℕ) : Type 0 where
  pub input : List ℕ
  pub consumed : Consumes unread unread' input
  pub begun : AreBegun rule beginning 1 (ended_lines input) bytes
      ⊎ (IsAtEnd unread' × AreBegun rule beginning 1 (all_lines input) bytes)

-- what is written ends in the midst of an answer
pub record AnswersBegun (rule : Rule) (beginning : Beginning) (unread unread' written written' : Option (List ℕ)) : Type 0 where
  pub bytes : List ℕ
  pub within : EndsWithin rule beginning unread unread' bytes
  pub appended : Appends written written' bytes

-- a part is written of what ends in the midst of an answer
pub record AnswersBroken (rule : Rule) (beginning : Beginning) (unread unread' written written' : Option (List ℕ)) : Type 0 where
  pub bytes : List ℕ
  pub within : EndsWithin rule beginning unread unread' bytes
  pub count : ℕ
  pub appended : Appends written written' (take count bytes)

-- how a run ends: well, or with a fault of the reader, of memory or of the writer
pub record StreamEnds (rule : Rule) (beginning : Beginning) (unread unread' written written' : Option (List ℕ))
    (outcome : Result Summary RunFault) : Type 0 where
  pub answered : IfOk outcome (AnswersAll rule unread unread' written written')
  pub read_fault : IsErrOf outcome Read → AnswersEnded rule unread unread' written written'
  pub memory_fault : IsErrOf outcome Memory
      → AnswersFirst rule unread unread' written written' ⊎ AnswersBegun rule beginning unread unread' written written'
  pub write_fault : IsErrOf outcome Write
      → AnswersCut rule unread unread' written written' ⊎ AnswersBroken rule beginning unread unread' written written'
