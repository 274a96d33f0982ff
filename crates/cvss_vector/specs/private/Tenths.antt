-- The scores of a vector, as the code has them.
use Rattle.std.specs.Prelude.{ℕ, ℤ, ◌≡◌, ◌≤◌, Option, None, Some, option_map}
use Rattle.cvss_vector.specs.Answers.{severity_by, score_of_tenths}
use Rattle.cvss_vector.specs.Complete.{first_missing}
use Rattle.cvss_vector.specs.Scores.{IsGroupScore, IsOverallScore, version_of}
use Rattle.cvss_vector.specs.declared.evaluation.Evaluation.{Evaluation}
use Rattle.cvss_vector.specs.declared.evaluation.Rated.{Rated}
use Rattle.cvss_vector.specs.declared.evaluation.Tenths.{Tenths}
use Rattle.cvss_vector.specs.declared.group.Group.{Group}
use Rattle.cvss_vector.specs.declared.group.Group.TheVariants.{Base, Temporal, Environmental}
use Rattle.cvss_vector.specs.declared.vector.Cvss.{Cvss}
use Rattle.cvss_vector.specs.declared.vector.Cvss.TheVariants.{CvssV40}

-- so many tenths are the score
pub record IsTenths (IsCount : ℤ → Type 0) (tenths : ℕ) : Type 0 where
  pub scored : IsCount (score_of_tenths tenths)
  pub to_ten : tenths ≤ 100

-- the same of an optional group, which CVSS v4.0 does not have
abbrev pub AreOptional : Cvss → Group → Option ℕ → Type 0
AreOptional (CvssV40 v) group found = found ≡ None
AreOptional cvss group None = ⊥
AreOptional cvss group (Some tenths) = IsTenths (IsGroupScore cvss group) tenths

pub record AreTenths (cvss : Cvss) (tenths : Tenths) : Type 0 where
  pub base : IsTenths (IsGroupScore cvss Base) tenths.base
  pub temporal : AreOptional cvss Temporal tenths.temporal
  pub environmental : AreOptional cvss Environmental tenths.environmental
  pub overall : IsTenths (IsOverallScore cvss) tenths.overall

-- the score of a group
abbrev pub tenths_in : Group → ℕ → ℕ → ℕ → ℕ
tenths_in Base base temporal environmental = base
tenths_in Temporal base temporal environmental = temporal
tenths_in Environmental base temporal environmental = environmental

-- a score and its severity
abbrev pub rated_by : Cvss → ℕ → Rated
rated_by cvss tenths = record { tenths = tenths; severity = severity_by cvss (score_of_tenths tenths) }

abbrev pub evaluation_of : Cvss → Tenths → Evaluation
evaluation_of cvss tenths = record {
  version = version_of cvss;
  overall = rated_by cvss tenths.overall;
  base = rated_by cvss tenths.base;
  temporal = option_map (rated_by cvss) tenths.temporal;
  environmental = option_map (rated_by cvss) tenths.environmental;
  missing = first_missing cvss;
}
