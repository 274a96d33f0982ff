-- What is written of a line with no text, and of one without blanks around it.
use Rattle.std.proofs.Common.{◌≡◌, ◌<◌, ℕ, Bool, true, List, [], ◌∷◌, ◌++◌, arith, length, refl, subst, sym}
use Rattle.cvss_lines.specs.Answers.{Accepted, Rule, WritesAnswer}
use Rattle.cvss_lists.specs.Trimmed.{text_rule, trimmed, trimmed_rule}

-- an empty answer, which accepts it
pub empty_answer : (rule : Rule) (number : ℕ) (text old new : List ℕ) → length text < 1 → new ≡ old ++ 10 ∷ []
    → WritesAnswer (text_rule rule) number text old new true
empty_answer rule number [] old new below written =
    record { answer = Accepted ([] ∷ []); answers = refl; reported = refl; written = written }
empty_answer rule number (byte ∷ bytes) old new below written = absurd (omega (arith, below))

-- the answer to a line that is its own text
pub bare_answer : (rule : Rule) (number : ℕ) (line old new : List ℕ) (accepted : Bool) → trimmed line ≡ line → 0 < length line
    → WritesAnswer rule number line old new accepted → WritesAnswer (trimmed_rule rule) number line old new accepted
bare_answer rule number [] old new accepted same some writes = absurd (omega (arith, some))
bare_answer rule number (byte ∷ bytes) old new accepted same some writes = record {
  answer = writes.answer;
  answers = subst (λ text. text_rule rule number text writes.answer) (sym same) writes.answers;
  reported = writes.reported;
  written = writes.written;
}
