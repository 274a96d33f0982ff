-- What is printed for lines, each of which is the text of a vector: explanations for people, each with an empty line after it.
use Rattle.std.specs.Prelude.{◌≡◌, ℕ, Bool, true, false, List, ◌++◌, None}
use Rattle.std.specs.Str.{IsUtf8}
use Rattle.cvss_vector.specs.Answers.{score_of_tenths, vector_answer}
use Rattle.cvss_vector.specs.Complete.{missing_by}
use Rattle.cvss_vector.specs.Evaluation.{IsOverallScore}
use Rattle.cvss_vector.specs.Lines.{IsRejection}
use Rattle.cvss_vector.specs.Dispatch.{DenotesCvss}
use Rattle.cvss_vector.specs.declared.vector.Cvss.{Cvss}
use Rattle.cvss_vector.specs.declared.vector.Cvss.TheVariants.{CvssV20, CvssV30, CvssV31, CvssV40}
use Rattle.cvss_explain.specs.V2 as v2
use Rattle.cvss_explain.specs.V3 as v3
use Rattle.cvss_explain.specs.V4 as v4
use Rattle.cvss_explain.specs.WhatIf.{IsTable}
use Rattle.cvss_lines.specs.Answers.{Rule, by_one_text, written_text}
use Rattle.cvss_vector.specs.v3.VectorWeights.{weights_of}

-- the lines after the heading explain the score of so many tenths
abbrev pub AreLines : Cvss → ℕ → List ℕ → Type 0
AreLines (CvssV20 vector) tenths = v2.AreLines vector
AreLines (CvssV30 vector) tenths = v3.AreLines vector (weights_of vector)
AreLines (CvssV31 vector) tenths = v3.AreLines vector (weights_of vector)
AreLines (CvssV40 vector) tenths = v4.AreLines vector tenths

-- what follows the heading: the lines that explain the score of so many tenths, or the scores that other values would give
abbrev pub Follows : Bool → Cvss → ℕ → List ℕ → Type 0
Follows true cvss tenths = IsTable cvss
Follows false cvss tenths = AreLines cvss tenths

-- the text is a heading, which is the vector's score line with the score of all its metrics, and what follows it, each line
-- with a byte 10 at its end
pub record Shows (what_if : Bool) (cvss : Cvss) (text : List ℕ) : Type 0 where
  pub tenths : ℕ
  pub scored : IsOverallScore cvss (score_of_tenths tenths)
  pub rest : List ℕ
  pub follows : Follows what_if cvss tenths rest
  pub is : text ≡ written_text (vector_answer cvss tenths) ++ rest

-- the line is a text that denotes a vector, which lacks no base metric unless it may, and the answer shows this of it
pub record IsAcceptance (what_if allow_incomplete : Bool) (line text : List ℕ) : Type 0 where
  pub utf8 : IsUtf8 line
  pub cvss : Cvss
  pub denoted : DenotesCvss line cvss
  pub complete : missing_by allow_incomplete cvss ≡ None
  pub shows : Shows what_if cvss text

-- the line is rejected as where it is scored
pub record IsRejectedAnswer (allow_incomplete : Bool) (line text : List ℕ) : Type 0 where
  pub error : List ℕ
  pub rejected : IsRejection allow_incomplete line error
  pub is : text ≡ written_text error

-- which answers a line has, whatever its number: one text, whose lines each have a byte 10 at their end, so that an empty
-- line follows
abbrev pub IsAnswer : Bool → Bool → Rule
IsAnswer what_if allow_incomplete =
    by_one_text (λ number. IsAcceptance what_if allow_incomplete) (λ number. IsRejectedAnswer allow_incomplete)
