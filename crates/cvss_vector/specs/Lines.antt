-- The answers to lines that are texts of vectors.
use Rattle.std.specs.Prelude.{◌≡◌, ℕ, Bool, true, List, ◌++◌, codes, None}
use Rattle.std.specs.Str.{IsUtf8}
use Rattle.cvss_vector.specs.declared.vector.Cvss.{Cvss}
use Rattle.cvss_vector.specs.Answers.{score_of_tenths, vector_answer}
use Rattle.cvss_vector.specs.Complete.{IsReadErrorBy, missing_by}
use Rattle.cvss_vector.specs.Dispatch.{DenotesCvss}
use Rattle.cvss_vector.specs.Reasons.{error_message}
use Rattle.cvss_vector.specs.Scores.{IsScoreAs}
use Rattle.cvss_vector.specs.declared.rejection.ReadError.{ReadError}
use Rattle.cvss_vector.specs.declared.scoring.Scoring.{Scoring}
use Rattle.cvss_vector.specs.declared.scoring.Scoring.TheVariants.{Published}
use Rattle.cvss_lines.specs.Answers.{Rule, by_one_text}

-- the answer is that of such a vector: its text, the score that is reported, of so many tenths, and the score's severity
pub record IsAnswerOf (scoring : Scoring) (IsIt : Cvss → Type 0) (answer : List ℕ) : Type 0 where
  pub vector : Cvss
  pub is_it : IsIt vector
  pub tenths : ℕ
  pub scored : IsScoreAs scoring vector (score_of_tenths tenths)
  pub is : answer ≡ vector_answer vector tenths

-- the answer is such an error
pub record IsErrorAnswer (IsRight : ReadError → Type 0) (answer : List ℕ) : Type 0 where
  pub error : ReadError
  pub is_right : IsRight error
  pub is : answer ≡ codes "error: " ++ error_message error

-- which answers a line has, whatever its number: one text, that of the line's vector or of its error
abbrev pub vector_rule : Scoring → (List ℕ → Cvss → Type 0) → (List ℕ → ReadError → Type 0) → Rule
vector_rule scoring IsVector IsError =
    by_one_text (λ number line. IsAnswerOf scoring (IsVector line)) (λ number line. IsErrorAnswer (IsError line))

-- the line is a text that denotes this vector of some version, which lacks no base metric unless it may
pub record IsVectorOf (allow_incomplete : Bool) (line : List ℕ) (vector : Cvss) : Type 0 where
  pub utf8 : IsUtf8 line
  pub denoted : DenotesCvss line vector
  pub complete : missing_by allow_incomplete vector ≡ None

-- the answer is an error with the first reason why the line is the text of no vector, or of one that lacks base metrics
-- and may not
abbrev pub IsRejection : Bool → List ℕ → List ℕ → Type 0
IsRejection allow_incomplete line = IsErrorAnswer (IsReadErrorBy allow_incomplete line)

-- a line is answered by the vector that it denotes, or by an error
abbrev pub score_rule : Scoring → Bool → Rule
score_rule scoring allow_incomplete = vector_rule scoring (IsVectorOf allow_incomplete) (IsReadErrorBy allow_incomplete)

-- this is an answer to the line as the Rust crate has it: where vectors of CVSS v3 may lack base metrics, by the
-- published score
abbrev pub IsAnswer : Rule
IsAnswer = score_rule Published true
