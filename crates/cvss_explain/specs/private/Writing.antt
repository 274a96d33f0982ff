-- What is written after earlier answers.
use Rattle.std.specs.Prelude.{◌≡◌, ℕ, List, ◌++◌}
use Rattle.cvss_lines.specs.Answers.{written_text}

-- a text of which this holds is written after the earlier answers
pub record Writes (Holds : List ℕ → Type 0) (old new : List ℕ) : Type 0 where
  pub text : List ℕ
  pub holds : Holds text
  pub written : new ≡ old ++ text

-- and the same with a byte 10 after the text
pub record WritesLine (Holds : List ℕ → Type 0) (old new : List ℕ) : Type 0 where
  pub text : List ℕ
  pub holds : Holds text
  pub written : new ≡ old ++ written_text text
