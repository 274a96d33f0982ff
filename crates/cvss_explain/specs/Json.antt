-- The answers to lines, each of which is the text of a vector: explanations of scores as JSON objects.
use Rattle.std.specs.Prelude.{◌≡◌, ℕ, Bool, List, [], ◌++◌, codes, drop, None, Some, if◌then◌else◌}
use Rattle.std.specs.Fmt.{decimal}
use Rattle.std.specs.Str.{IsUtf8, is_utf8}
use Rattle.cvss_vector.specs.Complete.{IsReadErrorBy, missing_by}
use Rattle.cvss_vector.specs.Dispatch.{DenotesCvss}
use Rattle.cvss_vector.specs.Reasons.{error_message}
use Rattle.cvss_vector.specs.declared.rejection.ReadError.{ReadError}
use Rattle.cvss_vector.specs.declared.vector.Cvss.{Cvss}
use Rattle.cvss_explain.specs.Explanation.{IsExplanationText}
use Rattle.cvss_json.specs.Escapes.{quoted}
use Rattle.cvss_lines.specs.Answers.{Rule, by_one_text}
use Rattle.cvss_report.specs.Cells.{given_text, object_start}
use Rattle.cvss_report.specs.declared.format.Format.TheVariants.{Json}

-- the text of an object, with the file as its first member where answers have a prefix
abbrev pub in_file : List ℕ → List ℕ → List ℕ
in_file prefix text = object_start prefix ++ drop 1 text

-- the text is such an object's, with the file where answers have a prefix
pub record IsInFile (prefix : List ℕ) (IsOwn : List ℕ → Type 0) (text : List ℕ) : Type 0 where
  pub own : List ℕ
  pub is_own : IsOwn own
  pub is : text ≡ in_file prefix own

-- the line is a text that denotes a vector, which lacks no base metric unless it may, and the answer explains its score
pub record IsAcceptance (allow_incomplete : Bool) (prefix : List ℕ) (number : ℕ) (line text : List ℕ) : Type 0 where
  pub utf8 : IsUtf8 line
  pub cvss : Cvss
  pub denoted : DenotesCvss line cvss
  pub complete : missing_by allow_incomplete cvss ≡ None
  pub explains : IsInFile prefix (IsExplanationText (Some number) cvss) text

-- the line as it is given, where it is UTF-8
abbrev pub given_member : List ℕ → List ℕ
given_member line = if is_utf8 line then codes ",\"given\":" ++ quoted line else []

-- the object for a line that is rejected: the file, where answers have a prefix, the reason, the line, and its number
abbrev pub rejection_text : List ℕ → ℕ → List ℕ → List ℕ → List ℕ
rejection_text prefix number line reason =
    object_start prefix
    ++ (codes "\"error\":" ++ given_text Json reason)
    ++ given_member line
    ++ (codes ",\"line\":" ++ decimal number ++ codes "}")

-- the line is the text of no vector, or of one that lacks base metrics and may not, and the object says the first reason
pub record IsRejection (allow_incomplete : Bool) (prefix : List ℕ) (number : ℕ) (line text : List ℕ) : Type 0 where
  pub error : ReadError
  pub is_right : IsReadErrorBy allow_incomplete line error
  pub is : text ≡ rejection_text prefix number line (error_message error)

-- which answers the line of this number has, which is read of an input whose answers have a prefix or an empty one: one
-- text. Vectors of CVSS v3 may lack base metrics, or not.
abbrev pub IsAnswer : Bool → List ℕ → Rule
IsAnswer allow_incomplete prefix = by_one_text (IsAcceptance allow_incomplete prefix) (IsRejection allow_incomplete prefix)
