-- What a run has read and written when it ends, well or with a fault, where a rule says which answers a line
-- has. Lines are numbered from 1.
use Rattle.std.specs.Prelude.{◌≡◌, ℕ, ◌-◌, ◌^◌, ◌⊎◌, min, Bool, List, take, Option, count_by, Result, IfOk, IsErrOf}
use Rattle.std.specs.Io.KnownBytes.{Consumes, Appends, IsAtEnd}
use Rattle.cvss_lines.specs.Answers.{Answer, IsAnswers, Rule, is_accepted, is_rejected, written_answers}
use Rattle.cvss_lines.specs.Lines.{lines, ended_lines}
use Rattle.cvss_lines.specs.declared.fault.RunFault.{RunFault}
use Rattle.cvss_lines.specs.declared.fault.RunFault.TheVariants.{Read, Write, Memory}
use Rattle.cvss_lines.specs.declared.summary.Summary.{Summary}

-- how many answers pass a test, as a `u64` that stops at its maximum
abbrev pub saturating_count : (Answer → Bool) → List Answer → ℕ
saturating_count test answers = min (count_by test answers) (2 ^ 64 - 1)

-- how many of the answers accept their line, and how many reject it
abbrev pub summary_of : List Answer → Summary
summary_of answers = record {
  accepted = saturating_count is_accepted answers;
  rejected = saturating_count is_rejected answers;
}

-- all of the input is read, and exactly the answers of its lines are written and counted
pub record AnswersAll (rule : Rule) (unread unread' written written' : Option (List ℕ)) (summary : Summary)
    : Type 0 where
  pub input : List ℕ
  pub answers : List Answer
  pub consumed : Consumes unread unread' input
  pub at_end : IsAtEnd unread'
  pub answered : IsAnswers rule 1 (lines input) answers
  pub appended : Appends written written' (written_answers answers)
  pub counted : summary ≡ summary_of answers

-- exactly the answers of the lines that a byte 10 ends in what was read are written
pub record AnswersEnded (rule : Rule) (unread unread' written written' : Option (List ℕ)) : Type 0 where
  pub input : List ℕ
  pub answers : List Answer
  pub consumed : Consumes unread unread' input
  pub answered : IsAnswers rule 1 (ended_lines input) answers
  pub appended : Appends written written' (written_answers answers)

-- the whole answers of the first lines of what was read are written
pub record AnswersFirst (rule : Rule) (unread unread' written written' : Option (List ℕ)) : Type 0 where
  pub input : List ℕ
  pub count : ℕ
  pub answers : List Answer
  pub consumed : Consumes unread unread' input
  pub answered : IsAnswers rule 1 (take count (ended_lines input)) answers
  pub appended : Appends written written' (written_answers answers)

-- a beginning of the answers is written: of the lines that a byte 10 ends in what was read, or of
-- all lines at the end of the input
pub record AnswersCut (rule : Rule) (unread unread' written written' : Option (List ℕ)) : Type 0 where
  pub input : List ℕ
  pub answers : List Answer
  pub count : ℕ
  pub consumed : Consumes unread unread' input
  pub answered : IsAnswers rule 1 (ended_lines input) answers
      ⊎ (IsAtEnd unread' × IsAnswers rule 1 (lines input) answers)
  pub appended : Appends written written' (take count (written_answers answers))

-- how a run ends: well, or with a fault of the reader, of memory or of the writer
pub record Ends (rule : Rule) (unread unread' written written' : Option (List ℕ)) (outcome : Result Summary RunFault)
    : Type 0 where
  pub answered : IfOk outcome (AnswersAll rule unread unread' written written')
  pub read_fault : IsErrOf outcome Read → AnswersEnded rule unread unread' written written'
  pub memory_fault : IsErrOf outcome Memory → AnswersFirst rule unread unread' written written'
  pub write_fault : IsErrOf outcome Write → AnswersCut rule unread unread' written written'
