-- The explanation of a vector's score, as JSON text.
use Rattle.std.specs.Prelude.{ℕ, List, Option}
use Rattle.cvss_vector.specs.Answers.{score_of_tenths}
use Rattle.cvss_vector.specs.Evaluation.{IsOverallScore}
use Rattle.cvss_vector.specs.declared.vector.Cvss.{Cvss}
use Rattle.cvss_vector.specs.declared.vector.Cvss.TheVariants.{CvssV20, CvssV30, CvssV31, CvssV40}
use Rattle.cvss_vector.specs.v3.VectorWeights.{weights_of}
use Rattle.cvss_explain.specs.V2 as v2
use Rattle.cvss_explain.specs.V3 as v3
use Rattle.cvss_explain.specs.V4 as v4

-- the text explains the score of so many tenths: the vector, its version, the score, the severity and the numbers on the
-- way to each score, with the number of the line if there is one
abbrev pub Explains : Option ℕ → Cvss → ℕ → List ℕ → Type 0
Explains line (CvssV20 vector) tenths = v2.IsExplanationText line (CvssV20 vector) vector tenths
Explains line (CvssV30 vector) tenths = v3.IsExplanationText line (CvssV30 vector) vector.minor_version (weights_of vector) tenths
Explains line (CvssV31 vector) tenths = v3.IsExplanationText line (CvssV31 vector) vector.minor_version (weights_of vector) tenths
Explains line (CvssV40 vector) tenths = v4.IsExplanationText line (CvssV40 vector) vector tenths

-- the text explains the vector's score, which counts all metrics in it
pub record IsExplanationText (line : Option ℕ) (cvss : Cvss) (text : List ℕ) : Type 0 where
  pub tenths : ℕ
  pub scored : IsOverallScore cvss (score_of_tenths tenths)
  pub explains : Explains line cvss tenths text
