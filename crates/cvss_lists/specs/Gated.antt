-- The answers to lines through a gate.
use Rattle.std.specs.Prelude.{◌≡◌, ℕ, Bool, true, false, List, [], Option, MatchOption}
use Rattle.cvss_lines.specs.Answers.{Answer, Accepted, Rejected, Rule, texts_of}
use Rattle.cvss_report.specs.Gates.{is_failing, is_passed_over}
use Rattle.cvss_report.specs.declared.gate.Gate.{Gate}

-- the answer, without its texts where nothing is printed
abbrev pub if_printed : Bool → Answer → Answer
if_printed true (Accepted texts) = Accepted []
if_printed true (Rejected texts) = Rejected []
if_printed false answer = answer

-- the answer, which rejects its line where that fails
abbrev pub if_failing : Bool → Answer → Answer
if_failing true answer = Rejected (texts_of answer)
if_failing false answer = answer

-- the line has an answer by the rule, and this is it, quiet or failing as the gate has it
pub record IsLetThrough (quiet failing : Bool) (rule : Rule) (number : ℕ) (line : List ℕ) (answer : Answer) : Type 0 where
  pub own : Answer
  pub answers : rule number line own
  pub is : answer ≡ if_printed quiet (if_failing failing own)

-- nothing is answered to a line that is passed over, which is accepted
abbrev pub IsAnswerIf : Bool → Rule → Rule
IsAnswerIf true rule number line answer = answer ≡ Accepted []
IsAnswerIf false rule number line answer = rule number line answer

-- this is an answer to the line through the gate, where answers by the rule report these scores
pub record IsGated (gate : Gate) (Reports : List ℕ → ℕ → Type 0) (rule : Rule) (number : ℕ) (line : List ℕ) (answer : Answer) : Type 0 where
  pub score : Option ℕ
  pub reported : MatchOption score ((tenths : ℕ) → ¬ (Reports line tenths)) (Reports line)
  pub is : IsAnswerIf (is_passed_over gate score) (IsLetThrough gate.quiet (is_failing gate score) rule) number line answer
