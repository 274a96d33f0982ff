-- The state of a run between two steps, and what its private code does in each.
use Rattle.std.specs.Prelude.{◌≡◌, ℕ, ◌+◌, ◌-◌, ◌^◌, min, if◌then◌else◌, ◌≤◌, ◌≢◌, ◌⊎◌, All, List, length, ◌++◌, take, Option}
use Rattle.std.specs.Io.KnownBytes.{Appends}
use Rattle.cvss_lines.specs.Answers.{Answer, IsAnswers, Rule, is_accepted, is_rejected, number_after, written_answers}
use Rattle.cvss_lines.specs.Lines.{ended_lines, lines as all_lines, unended_piece}
use Rattle.cvss_lines.specs.Runs.{summary_of}
use Rattle.cvss_lines.specs.Streaming.{AreBegun, Beginning}
use Rattle.cvss_lines.specs.declared.fault.RunFault.{RunFault}
use Rattle.cvss_lines.specs.declared.fault.RunFault.TheVariants.{Read, Write, Memory}
use Rattle.cvss_lines.specs.declared.pending.Pending.{Pending}
use Rattle.cvss_lines.specs.declared.progress.Progress.{Progress}
use Rattle.cvss_lines.specs.declared.summary.Summary.{Summary}

-- no line ends in these bytes
abbrev pub NoLineEnd : List ℕ → Type 0
NoLineEnd bytes = All (λ byte. byte ≢ 10) bytes

-- one more answer is counted, by a `u64` that stops at its maximum
pub record Counts (old : Summary) (answer : Answer) (new : Summary) : Type 0 where
  pub accepted : new.accepted ≡ (if is_accepted answer then min (old.accepted + 1) (2 ^ 64 - 1) else old.accepted)
  pub rejected : new.rejected ≡ (if is_rejected answer then min (old.rejected + 1) (2 ^ 64 - 1) else old.rejected)

-- the bytes are the whole answers to the first of the lines
pub record AreFirst (rule : Rule) (lines : List (List ℕ)) (bytes : List ℕ) : Type 0 where
  pub count : ℕ
  pub within : count ≤ length lines
  pub answers : List Answer
  pub answered : IsAnswers rule 1 (take count lines) answers
  pub are : bytes ≡ written_answers answers

-- the bytes are whole answers to some lines, or end in the midst of the answer to one of those or more
abbrev pub ArePassed : Rule → Beginning → List (List ℕ) → List (List ℕ) → List ℕ → Type 0
ArePassed rule beginning some all bytes = AreFirst rule some bytes ⊎ AreBegun rule beginning 1 all bytes

-- the answers to the first lines are written, since the writer had `start`, or wait, and are counted
pub record Stands (rule : Rule) (beginning : Beginning) (start written : Option (List ℕ)) (lines : List (List ℕ))
    (progress : Progress) : Type 0 where
  pub answers : List Answer
  pub answered : IsAnswers rule 1 lines answers
  pub passed : List ℕ
  pub are_passed : ArePassed rule beginning lines lines passed
  pub appended : Appends start written passed
  pub together : passed ++ progress.answers.bytes.items ≡ written_answers answers
  pub counted : progress.summary ≡ summary_of answers
  pub numbered : progress.number ≡ number_after 1 lines

-- memory was refused: what is written are whole answers to some lines, or ends in the midst of one
pub record Lacks (rule : Rule) (beginning : Beginning) (start written : Option (List ℕ)) (some all : List (List ℕ)) : Type 0 where
  pub passed : List ℕ
  pub are_passed : ArePassed rule beginning some all passed
  pub appended : Appends start written passed

-- a write failed in the midst of a line
pub record Breaks (rule : Rule) (beginning : Beginning) (start written : Option (List ℕ)) (all : List (List ℕ)) : Type 0 where
  pub bytes : List ℕ
  pub begun : AreBegun rule beginning 1 all bytes
  pub count : ℕ
  pub appended : Appends start written (take count bytes)

-- a fault before all lines were answered, of which some were
pub record Stops (rule : Rule) (beginning : Beginning) (start written : Option (List ℕ)) (some all : List (List ℕ))
    (fault : RunFault) : Type 0 where
  pub no_read : fault ≢ Read
  pub memory : fault ≡ Memory → Lacks rule beginning start written some all
  pub write : fault ≡ Write → Breaks rule beginning start written all

-- these lines are answered after whatever lines were
abbrev pub Answers : Rule → Beginning → List (List ℕ) → Option (List ℕ) → Option (List ℕ) → Progress → Progress → Type 0
Answers rule beginning more written written' old new = (start : Option (List ℕ)) → (lines : List (List ℕ))
    → Stands rule beginning start written lines old → Stands rule beginning start written' (lines ++ more) new

-- a fault before these lines were answered
abbrev pub StopsAnswering : Rule → Beginning → List (List ℕ) → Option (List ℕ) → Option (List ℕ) → Progress → RunFault → Type 0
StopsAnswering rule beginning more written written' old fault = (start : Option (List ℕ)) → (lines : List (List ℕ))
    → Stands rule beginning start written lines old → Stops rule beginning start written' lines (lines ++ more) fault

-- the lines that a byte 10 ends in what was read are answered, and what follows them is kept
pub record Awaits (rule : Rule) (beginning : Beginning) (start written : Option (List ℕ)) (read : List ℕ) (pending : Pending)
    : Type 0 where
  pub stands : Stands rule beginning start written (ended_lines read) pending.progress
  pub kept : pending.cut.items ≡ unended_piece read

-- this piece of the input is read after whatever was
abbrev pub Reads : Rule → Beginning → List ℕ → Option (List ℕ) → Option (List ℕ) → Pending → Pending → Type 0
Reads rule beginning piece written written' old new = (start : Option (List ℕ)) → (read : List ℕ)
    → Awaits rule beginning start written read old → Awaits rule beginning start written' (read ++ piece) new

-- a fault before the lines of this piece were answered
abbrev pub StopsReading : Rule → Beginning → List ℕ → Option (List ℕ) → Option (List ℕ) → Pending → RunFault → Type 0
StopsReading rule beginning piece written written' old fault = (start : Option (List ℕ)) → (read : List ℕ)
    → Awaits rule beginning start written read old
    → Stops rule beginning start written' (ended_lines (read ++ piece)) (ended_lines (read ++ piece)) fault

-- all lines of an input that has ended are answered
abbrev pub EndsInput : Rule → Beginning → Option (List ℕ) → Option (List ℕ) → Pending → Pending → Type 0
EndsInput rule beginning written written' old new = (start : Option (List ℕ)) → (read : List ℕ)
    → Awaits rule beginning start written read old → Stands rule beginning start written' (all_lines read) new.progress

-- a fault before all lines of an input that has ended were answered
abbrev pub StopsEnding : Rule → Beginning → Option (List ℕ) → Option (List ℕ) → Pending → RunFault → Type 0
StopsEnding rule beginning written written' old fault = (start : Option (List ℕ)) → (read : List ℕ)
    → Awaits rule beginning start written read old → Stops rule beginning start written' (ended_lines read) (all_lines read) fault
