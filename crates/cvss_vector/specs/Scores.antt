-- The scores of a vector by groups of metrics, and the overall score, which counts all metrics that are defined: CVSS v2
-- guide, section 3.2; v3.1 specification, section 7; v4.0 specification, sections 1.3 and 8.2. The National
-- Vulnerability Database gave the overall score its name.
use Rattle.std.specs.Prelude.{◌&&◌, ◌||◌, ℤ, Bool, true, false, not, if◌then◌else◌, List, ℕ, codes, Option, None, Some, bytes_eq}
use Rattle.std.specs.List.{list_any}
use Rattle.cvss_base.specs.Tenths.{IsInTenths}
use Rattle.cvss_base.specs.V2Types as types_v2
use Rattle.cvss_base.specs.V3Types as types_v3
use Rattle.cvss_base.specs.Version.{Version as Grammar, held}
use Rattle.cvss_base.specs.declared.group.MetricGroup.{MetricGroup}
use Rattle.cvss_base.specs.declared.group.MetricGroup.TheVariants as metrics
use Rattle.cvss_score.specs.declared.v4.nomenclature.Nomenclature.TheVariants.{CvssB}
use Rattle.cvss_score.specs.v2.Scores as scores_v2
use Rattle.cvss_score.specs.v3.Scores as scores_v3
use Rattle.cvss_score.specs.v4.Scores.{IsScore}
use Rattle.cvss_vector.specs.Answers.{IsScoreOf}
use Rattle.cvss_vector.specs.declared.setting.Version.{Version}
use Rattle.cvss_vector.specs.declared.setting.Version.TheVariants.{V20, V30, V31, V40}
use Rattle.cvss_vector.specs.declared.vector.Cvss.{Cvss}
use Rattle.cvss_vector.specs.declared.vector.Cvss.TheVariants.{CvssV20, CvssV30, CvssV31, CvssV40}
use Rattle.cvss_vector.specs.v2.Vector.{v2}
use Rattle.cvss_vector.specs.v2.Weights as weights_v2
use Rattle.cvss_vector.specs.declared.v2.vector.Vector as declared_v2
use Rattle.cvss_vector.specs.v3.Vector.{v3}
use Rattle.cvss_vector.specs.v3.VectorWeights as weights_v3
use Rattle.cvss_vector.specs.declared.v3.vector.Vector as declared_v3
use Rattle.cvss_vector.specs.v4.Merging.{effective_of}
use Rattle.cvss_vector.specs.v4.Parts.{IsScoreBy}
use Rattle.cvss_vector.specs.declared.group.Group.{Group}
use Rattle.cvss_vector.specs.declared.group.Group.TheVariants.{Base, Temporal, Environmental}
use Rattle.cvss_vector.specs.declared.scoring.Scoring.{Scoring}
use Rattle.cvss_vector.specs.declared.scoring.Scoring.TheVariants as scoring

-- the version of a vector, and how it is written
abbrev pub version_of : Cvss → Version
version_of (CvssV20 _) = V20
version_of (CvssV30 _) = V30
version_of (CvssV31 _) = V31
version_of (CvssV40 _) = V40

abbrev pub version_text : Version → List ℕ
version_text V20 = codes "2.0"
version_text V30 = codes "3.0"
version_text V31 = codes "3.1"
version_text V40 = codes "4.0"

-- whether optional metrics of a group belong to it
abbrev pub has_metrics : Group → MetricGroup → Bool
has_metrics Temporal metrics.Temporal = true
has_metrics Environmental metrics.Environmental = true
has_metrics _ _ = false

-- the score that a group of metrics gives a vector; of CVSS v4.0 only the base metrics have one, that of CVSS-B
abbrev pub IsGroupScore : Cvss → Group → ℤ → Type 0
IsGroupScore (CvssV20 v) Base = scores_v2.IsBaseScore (weights_v2.weights_of v)
IsGroupScore (CvssV20 v) Temporal = scores_v2.IsTemporalScore (weights_v2.weights_of v)
IsGroupScore (CvssV20 v) Environmental = scores_v2.IsEnvironmentalScore (weights_v2.weights_of v)
IsGroupScore (CvssV30 v) Base = scores_v3.IsBaseScore v.minor_version (weights_v3.weights_of v)
IsGroupScore (CvssV30 v) Temporal = scores_v3.IsTemporalScore v.minor_version (weights_v3.weights_of v)
IsGroupScore (CvssV30 v) Environmental = scores_v3.IsEnvironmentalScore v.minor_version (weights_v3.weights_of v)
IsGroupScore (CvssV31 v) Base = scores_v3.IsBaseScore v.minor_version (weights_v3.weights_of v)
IsGroupScore (CvssV31 v) Temporal = scores_v3.IsTemporalScore v.minor_version (weights_v3.weights_of v)
IsGroupScore (CvssV31 v) Environmental = scores_v3.IsEnvironmentalScore v.minor_version (weights_v3.weights_of v)
IsGroupScore (CvssV40 v) Base = IsScoreBy CvssB v
IsGroupScore (CvssV40 v) Temporal = λ _. ⊥
IsGroupScore (CvssV40 v) Environmental = λ _. ⊥

-- the value `X`, or `ND` in CVSS v2: the metric is not defined
abbrev pub is_undefined : List ℕ → Bool
is_undefined value = bytes_eq value (codes "X") || bytes_eq value (codes "ND")

-- there is a value, and it defines the metric
abbrev pub is_defined : Option (List ℕ) → Bool
is_defined None = false
is_defined (Some value) = not (is_undefined value)

-- whether a vector defines an optional metric of a group
abbrev pub defines : {V K : Type 0} → Grammar V K → (K → MetricGroup) → V → Group → Bool
defines version group_of v group = list_any (λ kind. has_metrics group (group_of kind) && is_defined (held version v kind)) version.printed

-- the group whose score counts all metrics that are defined, by whether environmental and temporal ones are
abbrev pub overall_group : Bool → Bool → Group
overall_group environmental temporal = if environmental then Environmental else (if temporal then Temporal else Base)

abbrev pub overall_v2 : declared_v2.Vector → Group
overall_v2 v = overall_group (defines v2 types_v2.group_of v Environmental) (defines v2 types_v2.group_of v Temporal)

abbrev pub overall_v3 : declared_v3.Vector → Group
overall_v3 v = overall_group (defines v3 types_v3.group_of v Environmental) (defines v3 types_v3.group_of v Temporal)

-- the vector's overall score; CVSS v4.0 has one score, which counts all
abbrev pub IsOverallScore : Cvss → ℤ → Type 0
IsOverallScore (CvssV20 v) = IsGroupScore (CvssV20 v) (overall_v2 v)
IsOverallScore (CvssV30 v) = IsGroupScore (CvssV30 v) (overall_v3 v)
IsOverallScore (CvssV31 v) = IsGroupScore (CvssV31 v) (overall_v3 v)
IsOverallScore (CvssV40 v) = IsInTenths (IsScore (effective_of v))

-- the score of a vector that is reported
abbrev pub IsScoreAs : Scoring → Cvss → ℤ → Type 0
IsScoreAs scoring.Published cvss = IsScoreOf cvss
IsScoreAs scoring.Overall cvss = IsOverallScore cvss
IsScoreAs scoring.Base cvss = IsGroupScore cvss Base
