-- What answers a line that is one vector and nothing else.
use Rattle.std.specs.Prelude.{◌≡◌, ℕ, ◌++◌, Bool, List, [], ◌∷◌}
use Rattle.cvss_vector.specs.Lines.{score_rule}
use Rattle.cvss_vector.specs.declared.scoring.Scoring.{Scoring}
use Rattle.cvss_matches.specs.Answers.{location_text}
use Rattle.cvss_lines.specs.Answers.{Answer, is_accepted, texts_of}

-- the answer is one text: the line's number and first byte, and what answers the line by itself, and accepts if that does
pub record ReportsOfAll (scoring : Scoring) (allow_incomplete : Bool) (prefix : List ℕ) (number : ℕ) (line : List ℕ) (answer : Answer) : Type 0 where
  pub own : Answer
  pub answers : score_rule scoring allow_incomplete number line own
  pub text : List ℕ
  pub one_text : texts_of own ≡ text ∷ []
  pub texts : texts_of answer ≡ ((prefix ++ location_text number 0) ++ text) ∷ []
  pub accepted : is_accepted answer ≡ is_accepted own
