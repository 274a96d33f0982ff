-- How it ends to answer an input that is one document.
use Rattle.std.specs.Prelude.{◌≡◌, ◌⊎◌, ℕ, List, [], ◌∷◌, take, Option, Result, IfOk, IsErrOf}
use Rattle.std.specs.Io.KnownBytes.{Appends, Consumes, IsAtEnd, Keeps}
use Rattle.cvss_lines.specs.Answers.{Answer, written_answer}
use Rattle.cvss_lines.specs.Runs.{summary_of}
use Rattle.cvss_lines.specs.declared.fault.RunFault.{RunFault}
use Rattle.cvss_lines.specs.declared.fault.RunFault.TheVariants.{Read, Write, Memory}
use Rattle.cvss_lines.specs.declared.summary.Summary.{Summary}
use Rattle.cvss_audit.specs.Answers.{Begins, IsAnswer}
use Rattle.cvss_audit.specs.Inputs.{Input}

-- all of the input is read, and exactly its answer is written and counted
pub record AnswersWhole (input : Input) (unread unread' written written' : Option (List ℕ)) (summary : Summary) : Type 0 where
  pub text : List ℕ
  pub answer : Answer
  pub consumed : Consumes unread unread' text
  pub at_end : IsAtEnd unread'
  pub answers : IsAnswer input text answer
  pub appended : Appends written written' (written_answer answer)
  pub counted : summary ≡ summary_of (answer ∷ [])

-- all of the input is read, and a beginning of its answer is known
pub record IsBegun (input : Input) (unread unread' : Option (List ℕ)) (bytes : List ℕ) : Type 0 where
  pub text : List ℕ
  pub consumed : Consumes unread unread' text
  pub at_end : IsAtEnd unread'
  pub begins : Begins input text bytes ⊎ ((answer : Answer) × IsAnswer input text answer × (bytes ≡ written_answer answer))

-- a beginning of the answer is written
pub record AnswersBegun (input : Input) (unread unread' written written' : Option (List ℕ)) : Type 0 where
  pub bytes : List ℕ
  pub begun : IsBegun input unread unread' bytes
  pub appended : Appends written written' bytes

-- a part is written of a beginning of the answer
pub record AnswersBroken (input : Input) (unread unread' written written' : Option (List ℕ)) : Type 0 where
  pub bytes : List ℕ
  pub begun : IsBegun input unread unread' bytes
  pub count : ℕ
  pub appended : Appends written written' (take count bytes)

-- how it ends: well, or with a fault of the reader, of memory or of the writer
pub record WholeEnds (input : Input) (unread unread' written written' : Option (List ℕ)) (outcome : Result Summary RunFault) : Type 0 where
  pub answered : IfOk outcome (AnswersWhole input unread unread' written written')
  pub read_fault : IsErrOf outcome Read → Keeps written written'
  pub memory_fault : IsErrOf outcome Memory → Keeps written written' ⊎ AnswersBegun input unread unread' written written'
  pub write_fault : IsErrOf outcome Write → AnswersBroken input unread unread' written written'
