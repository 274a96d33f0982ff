-- All that is reported of the scores of a vector: CVSS v2 guide, section 3.2; v3.1 specification, sections 5 and 7; v4.0
-- specification, sections 1.3, 6 and 8.2.
use Rattle.std.specs.Prelude.{◌≡◌, ◌≤◌, ℤ, Option, None, Some}
use Rattle.cvss_vector.specs.Answers.{severity_by, score_of_tenths}
use Rattle.cvss_vector.specs.Complete.{first_missing}
use Rattle.cvss_vector.specs.declared.evaluation.Evaluation.{Evaluation}
use Rattle.cvss_vector.specs.declared.evaluation.Rated.{Rated}
use Rattle.cvss_vector.specs.declared.group.Group.{Group}
use Rattle.cvss_vector.specs.declared.group.Group.TheVariants.{Base, Temporal, Environmental}
use Rattle.cvss_vector.specs.declared.vector.Cvss.{Cvss}
use Rattle.cvss_vector.specs.declared.vector.Cvss.TheVariants.{CvssV40}
-- the scores that are reported
pub use Rattle.cvss_vector.specs.Scores.{version_of, version_text, has_metrics, IsGroupScore, is_undefined, is_defined, defines, overall_group, overall_v2, overall_v3, IsOverallScore, IsScoreAs}

-- a score of so many tenths, and the severity that the vector's version gives it
pub record IsRated (cvss : Cvss) (IsCount : ℤ → Type 0) (rated : Rated) : Type 0 where
  pub scored : IsCount (score_of_tenths rated.tenths)
  pub rating : rated.severity ≡ severity_by cvss (score_of_tenths rated.tenths)
  pub to_ten : rated.tenths ≤ 100

-- the score of an optional group, which CVSS v4.0 does not have
abbrev pub IsOptional : Cvss → Group → Option Rated → Type 0
IsOptional (CvssV40 v) group found = found ≡ None
IsOptional cvss group None = ⊥
IsOptional cvss group (Some rated) = IsRated cvss (IsGroupScore cvss group) rated

-- the version, the overall score, the scores of the groups of metrics, and the first base metric that the vector lacks
pub record IsEvaluation (cvss : Cvss) (found : Evaluation) : Type 0 where
  pub version : found.version ≡ version_of cvss
  pub overall : IsRated cvss (IsOverallScore cvss) found.overall
  pub base : IsRated cvss (IsGroupScore cvss Base) found.base
  pub temporal : IsOptional cvss Temporal found.temporal
  pub environmental : IsOptional cvss Environmental found.environmental
  pub missing : found.missing ≡ first_missing cvss
