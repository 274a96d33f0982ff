-- What the score of a vector would be with other values of its metrics.
use Rattle.std.specs.Prelude.{◌≡◌, ◌⊎◌, ℕ, Bool, if◌then◌else◌, List, [], ◌++◌, codes, Option, bytes_eq}
use Rattle.std.specs.Option.{option_map_or}
use Rattle.cvss_vector.specs.Answers.{score_of_tenths}
use Rattle.cvss_vector.specs.Setting.{IsWith}
use Rattle.cvss_vector.specs.declared.vector.Cvss.{Cvss}
use Rattle.cvss_vector.specs.declared.vector.Cvss.TheVariants.{CvssV20, CvssV30, CvssV31, CvssV40}
use Rattle.cvss_base.specs.Tenths.{tenths_text}
use Rattle.cvss_base.specs.Text.{component}
use Rattle.cvss_base.specs.Version.{Version, held}
use Rattle.cvss_explain.specs.Lines.{Joins, padded}
use Rattle.cvss_report.specs.Words.{ValueWord}
use Rattle.cvss_report.specs.WordsV2 as words_v2
use Rattle.cvss_report.specs.WordsV3 as words_v3
use Rattle.cvss_report.specs.WordsV4 as words_v4
use Rattle.cvss_vector.specs.Evaluation.{IsOverallScore, is_undefined}
use Rattle.cvss_vector.specs.v2.Vector.{v2}
use Rattle.cvss_vector.specs.v3.Vector.{v3}
use Rattle.cvss_vector.specs.v4.Vector.{v4}

-- the value is the vector's; a metric that the vector lacks is not defined
abbrev pub is_present : Option (List ℕ) → List ℕ → Bool
is_present own spelling = option_map_or (bytes_eq spelling) own (is_undefined spelling)

-- a value and a score of so many tenths, with a mark where the value is the vector's
abbrev pub cell_text : Bool → List ℕ → ℕ → List ℕ
cell_text present spelling tenths =
    codes "  " ++ (if present then codes "*" else codes " ") ++ spelling ++ codes " " ++ tenths_text tenths

-- the vector with this component set, and the tenths of its overall score
pub record IsScored (cvss : Cvss) (set : List ℕ) (tenths : ℕ) : Type 0 where
  pub new : Cvss
  pub is : IsWith cvss set new
  pub scored : IsOverallScore new (score_of_tenths tenths)

-- the text of a metric's value; there is none where the value cannot be set
abbrev pub IsCell : Cvss → List ℕ → Option (List ℕ) → ValueWord → List ℕ → Type 0
IsCell cvss name own value text =
    ((tenths : ℕ) × IsScored cvss (component name value.0) tenths × (text ≡ cell_text (is_present own value.0) value.0 tenths))
    ⊎ (((new : Cvss) → ¬ (IsWith cvss (component name value.0) new)) × (text ≡ []))

-- the line of a metric: its abbreviation, and its values
pub record IsLine {V K : Type 0} (version : Version V K) (words : K → List ValueWord) (cvss : Cvss) (v : V) (kind : K) (text : List ℕ) : Type 0 where
  pub cells : List ℕ
  pub are : Joins (IsCell cvss (version.name kind) (held version v kind)) (words kind) cells
  pub is : text ≡ codes "  " ++ padded 3 (version.name kind) ++ cells ++ codes "\n"

-- the lines of all metrics of the version, in printing order
abbrev pub AreLines : {V K : Type 0} → Version V K → (K → List ValueWord) → Cvss → V → List ℕ → Type 0
AreLines version words cvss v = Joins (IsLine version words cvss v) version.printed

abbrev pub IsTable : Cvss → List ℕ → Type 0
IsTable (CvssV20 v) = AreLines v2 words_v2.words_of (CvssV20 v) v
IsTable (CvssV30 v) = AreLines v3 words_v3.words_of (CvssV30 v) v
IsTable (CvssV31 v) = AreLines v3 words_v3.words_of (CvssV31 v) v
IsTable (CvssV40 v) = AreLines v4 words_v4.words_of (CvssV40 v) v
