-- Exact numbers as C sees them: the scores and sub-scores of vectors that may lack mandatory metrics, and numbers that are
-- rounded as scores are.
use Rattle.std.specs.Prelude.{◌≡◌, ◌⊎◌, ◌^◌, ◌+ℤ◌, ◌*ℤ◌, ◌<ℤ◌, ℕ, ℤ, pos, neg_ℤ, List, [], ◌∷◌, ◌++◌, codes, Option, None, MatchOption}
use Rattle.std.specs.Str.{IsUtf8}
use Rattle.cvss_base.specs.Exact.{Exact, of_count, ◌≈◌}
use Rattle.cvss_base.specs.Rounding.{IsRoundedV2}
use Rattle.cvss_base.specs.Version.{Version, AreComponentsOf, numeral, version_piece}
use Rattle.cvss_score.specs.v2.Scores as scores_v2
use Rattle.cvss_score.specs.v3.Scores as scores_v3
use Rattle.cvss_text.specs.Setting.{components_in}
use Rattle.cvss_vector.specs.declared.v2.vector.Vector as vector_v2
use Rattle.cvss_vector.specs.declared.v3.vector.Vector as vector_v3
use Rattle.cvss_vector.specs.v2.Vector.{v2}
use Rattle.cvss_vector.specs.v3.Vector.{v3}
use Rattle.cvss_vector.specs.v2.Weights as weights_v2
use Rattle.cvss_vector.specs.v3.VectorWeights as weights_v3
use Rattle.cvss_vector.specs.declared.vector.Cvss.{Cvss}
use Rattle.cvss_vector.specs.declared.vector.Cvss.TheVariants.{CvssV20, CvssV31}
use Rattle.cvss_vector.specs.declared.group.Group.TheVariants.{Base, Temporal, Environmental}
use Rattle.cvss_ffi.specs.Accepted.{NoneIs}
use Rattle.cvss_ffi.specs.Scores.{IsReportedScore}
use Rattle.cvss_ffi.specs.declared.exact.CvssNumber.{CvssNumber}
use Rattle.cvss_ffi.specs.declared.exact.CvssNumbers.{CvssNumbers}

-- the vector of this front with the components of a text, each once and in any order; none is mandatory
pub record IsPartial {V K : Type 0} (version : Version V K) (front : List (List ℕ)) (metrics : List ℕ) (v : V) : Type 0 where
  pub utf8 : IsUtf8 metrics
  pub front_is : version.front v ≡ front
  pub components : AreComponentsOf version (components_in metrics) v

-- a value of which this holds for the vector; nothing, where there is no vector
abbrev pub IsOfPartial : {V K X : Type 0} → Version V K → List (List ℕ) → List ℕ → (V → X → Type 0) → Option X → Type 0
IsOfPartial {V} version front metrics IsOf answer =
    MatchOption answer (NoneIs (IsPartial version front metrics)) (λ value. (v : V) × IsPartial version front metrics v × IsOf v value)

-- the count of 10^-24 of a number
abbrev pub count_in : CvssNumber → ℤ
count_in number = number.trillionths *ℤ pos (10 ^ 12) +ℤ number.rest

-- what a number stands for
abbrev pub exact_of : CvssNumber → Exact
exact_of number = of_count (count_in number)

-- each part is within its bounds, so that the number is less than a million from 0
pub record IsNumber (number : CvssNumber) : Type 0 where
  pub from_lowest : neg_ℤ (pos (10 ^ 18)) <ℤ number.trillionths
  pub to_highest : number.trillionths <ℤ pos (10 ^ 18)
  pub rest_from_lowest : neg_ℤ (pos (10 ^ 12)) <ℤ number.rest
  pub rest_to_highest : number.rest <ℤ pos (10 ^ 12)

-- how many bytes the numbers of a vector have
abbrev pub numbers_size : ℕ
numbers_size = 64

-- three scores of a vector in tenths, and three exact sub-scores, in a struct of such a size
pub record AreNumbers (size : ℕ) (cvss : Cvss) (impact exploitability adjusted : Exact) (numbers : CvssNumbers) : Type 0 where
  pub size_is : numbers.size ≡ size
  pub base : IsReportedScore cvss Base numbers.base
  pub temporal : IsReportedScore cvss Temporal numbers.temporal
  pub environmental : IsReportedScore cvss Environmental numbers.environmental
  pub impact_is : exact_of numbers.impact ≈ impact
  pub exploitability_is : exact_of numbers.exploitability ≈ exploitability
  pub adjusted_is : exact_of numbers.adjusted_impact ≈ adjusted

-- those of CVSS v2, and those of CVSS v3, by the vector's minor version: ISS, Exploitability and MISS
abbrev pub AreNumbersV2 : ℕ → vector_v2.Vector → CvssNumbers → Type 0
AreNumbersV2 size vector =
    let w = weights_v2.weights_of vector in
    AreNumbers size (CvssV20 vector) (scores_v2.impact w) (scores_v2.exploitability w) (scores_v2.adjusted_impact w)

abbrev pub AreNumbersV3 : ℕ → vector_v3.Vector → CvssNumbers → Type 0
AreNumbersV3 size vector =
    let w = weights_v3.weights_of vector in
    AreNumbers size (CvssV31 vector) (scores_v3.iss w) (scores_v3.exploitability w) (scores_v3.miss w)

-- the piece that says a version of CVSS v3
abbrev pub front_v3 : ℕ → List (List ℕ)
front_v3 minor = version_piece (codes "3." ++ numeral minor) ∷ []

-- the version is 2.0, 3.0 or 3.1
abbrev pub IsBeforeV4 : ℤ → Type 0
IsBeforeV4 version = (version ≡ pos 20) ⊎ ((version ≡ pos 30) ⊎ (version ≡ pos 31))

-- the numbers of the vector of a version, with the components of a text; of v4.0 and other versions there are none
pub record AreNumbersOf (size : ℕ) (version : ℤ) (metrics : List ℕ) (numbers : Option CvssNumbers) : Type 0 where
  pub of_v20 : version ≡ pos 20 → IsOfPartial v2 [] metrics (AreNumbersV2 size) numbers
  pub of_v30 : version ≡ pos 30 → IsOfPartial v3 (front_v3 0) metrics (AreNumbersV3 size) numbers
  pub of_v31 : version ≡ pos 31 → IsOfPartial v3 (front_v3 1) metrics (AreNumbersV3 size) numbers
  pub no_version : ¬ (IsBeforeV4 version) → numbers ≡ None

-- so many tenths are the number, rounded as scores of the version are
pub record IsRoundedFor (version : ℤ) (number : Exact) (tenths : ℤ) : Type 0 where
  pub of_v20 : version ≡ pos 20 → IsRoundedV2 number tenths
  pub of_v30 : version ≡ pos 30 → scores_v3.IsRounded 0 number tenths
  pub of_v31 : version ≡ pos 31 → scores_v3.IsRounded 1 number tenths

-- the number is one, and the version one whose rounding is reported
abbrev pub IsRoundable : ℤ → CvssNumber → Type 0
IsRoundable version number = IsBeforeV4 version × IsNumber number

-- the tenths of the rounded number; nothing, where none is reported
abbrev pub IsRoundedTo : ℤ → CvssNumber → Option ℤ → Type 0
IsRoundedTo version number answer =
    MatchOption answer (¬ (IsRoundable version number)) (λ tenths. IsRoundable version number × IsRoundedFor version (exact_of number) tenths)

-- the tenths of the temporal score of the vector of CVSS v2 with these components, with another impact; nothing, where
-- the impact is no number or there is no such vector
abbrev pub IsTemporalWith : List ℕ → CvssNumber → Option ℤ → Type 0
IsTemporalWith metrics impact answer = (IsNumber impact × IsOfPartial v2 [] metrics
    (λ v tenths. scores_v2.IsTemporal (weights_v2.weights_of v) (exact_of impact) tenths) answer)
    ⊎ (¬ (IsNumber impact) × (answer ≡ None))
