-- The groups of metrics, and the scores that a record says of them: CVSS v2 guide, section 3.2; v3.1 specification,
-- section 7; FIRST's JSON schemas of CVSS v2.0, v3.0, v3.1 and v4.0.
use Rattle.std.specs.Prelude.{◌≡◌, ℕ, Bool, false, ◌&&◌, List, codes, Option, Some, None, is_some, option_map}
use Rattle.std.specs.List.{list_any}
use Rattle.cvss_vector.specs.Evaluation.{IsEvaluation}
use Rattle.cvss_vector.specs.Scores.{has_metrics}
use Rattle.cvss_metric.specs.v2.Table as table_v2
use Rattle.cvss_metric.specs.v3.Table as table_v3
use Rattle.cvss_base.specs.V2Types as types_v2
use Rattle.cvss_base.specs.V3Types as types_v3
use Rattle.cvss_vector.specs.v2.Vector as vector_v2
use Rattle.cvss_vector.specs.v3.Vector as vector_v3
use Rattle.cvss_vector.specs.declared.vector.Cvss.{Cvss}
use Rattle.cvss_vector.specs.declared.vector.Cvss.TheVariants.{CvssV20, CvssV30, CvssV31, CvssV40}
use Rattle.cvss_vector.specs.declared.evaluation.Evaluation.{Evaluation}
use Rattle.cvss_vector.specs.declared.group.Group.{Group}
use Rattle.cvss_vector.specs.declared.group.Group.TheVariants.{Base, Temporal, Environmental}
use Rattle.cvss_vector.specs.declared.evaluation.Rated.{Rated}
use Rattle.cvss_report.specs.declared.score.Scores.{Scores}

-- the vector has an optional metric of the group, be it that the metric is not defined
abbrev pub has_group : Cvss → Group → Bool
has_group (CvssV20 v) group = list_any (λ kind. has_metrics group (types_v2.group_of kind) && is_some (vector_v2.value_at v kind)) table_v2.printed
has_group (CvssV30 v) group = list_any (λ kind. has_metrics group (types_v3.group_of kind) && is_some (vector_v3.value_at v kind)) table_v3.printed
has_group (CvssV31 v) group = list_any (λ kind. has_metrics group (types_v3.group_of kind) && is_some (vector_v3.value_at v kind)) table_v3.printed
has_group (CvssV40 v) group = false

-- the tenths of a score, if there is one
abbrev pub tenths_of : Option Rated → Option ℕ
tenths_of found = option_map (λ (rated : Rated). rated.tenths) found

-- the scores of the groups
abbrev pub group_scores : Evaluation → Scores
group_scores found = record {
  base = found.base.tenths;
  temporal = tenths_of found.temporal;
  environmental = tenths_of found.environmental;
}

-- the scores that a record says of a vector that has these: of CVSS v4.0 `baseScore` alone, as publishers write it, which is
-- the score with all metrics in the vector
abbrev pub record_scores : Cvss → Evaluation → Scores
record_scores (CvssV20 _) found = group_scores found
record_scores (CvssV30 _) found = group_scores found
record_scores (CvssV31 _) found = group_scores found
record_scores (CvssV40 _) found = record { base = found.overall.tenths; temporal = None; environmental = None }

-- these are the scores that a record says of the vector
pub record AreScoresOf (cvss : Cvss) (scores : Scores) : Type 0 where
  pub evaluation : Evaluation
  pub is_evaluation : IsEvaluation cvss evaluation
  pub are : scores ≡ record_scores cvss evaluation

-- the tenths of a group's score, if a record can say it
abbrev pub tenths_at : Scores → Group → Option ℕ
tenths_at scores Base = Some scores.base
tenths_at scores Temporal = scores.temporal
tenths_at scores Environmental = scores.environmental

-- the member that holds a group's score
abbrev pub score_member : Group → List ℕ
score_member Base = codes "baseScore"
score_member Temporal = codes "temporalScore"
score_member Environmental = codes "environmentalScore"

-- the member that holds the severity of a group's score
abbrev pub severity_member : Group → List ℕ
severity_member Base = codes "baseSeverity"
severity_member Temporal = codes "temporalSeverity"
severity_member Environmental = codes "environmentalSeverity"
