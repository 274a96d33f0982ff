-- What is written of two vectors that are compared.
use Rattle.std.specs.Prelude.{◌≡◌, Bool, true, false, ℕ, List, ◌++◌, flat_map, Option, Some, None}
use Rattle.cvss_lines.specs.Answers.{Answer, is_accepted, written_answer, written_text}
use Rattle.cvss_lists.specs.Differences.{IsComparison, IsDifferenceFrom}
use Rattle.cvss_vector.specs.declared.scoring.Scoring.{Scoring}
use Rattle.cvss_vector.specs.declared.vector.Cvss.{Cvss}

-- the lines are written, if there are some for vectors of one version, and whether there are is reported
abbrev pub WritesLines : Option (List (List ℕ)) → List ℕ → List ℕ → Bool → Type 0
WritesLines None old new comparable = (comparable ≡ false) × (new ≡ old)
WritesLines (Some lines) old new comparable = (comparable ≡ true) × (new ≡ old ++ flat_map written_text lines)

-- an answer that compares the vectors is written, and whether it accepts is reported
pub record WritesComparison (scoring : Scoring) (before after : Cvss) (old new : List ℕ) (accepted : Bool) : Type 0 where
  pub answer : Answer
  pub compares : IsComparison scoring before after answer
  pub reported : accepted ≡ is_accepted answer
  pub written : new ≡ old ++ written_answer answer

-- an answer to a vector and a text is written, and whether it accepts is reported
pub record WritesDifferenceFrom (scoring : Scoring) (allow_incomplete : Bool) (before : Cvss) (second old new : List ℕ) (accepted : Bool) : Type 0 where
  pub answer : Answer
  pub answers : IsDifferenceFrom scoring allow_incomplete before second answer
  pub reported : accepted ≡ is_accepted answer
  pub written : new ≡ old ++ written_answer answer
