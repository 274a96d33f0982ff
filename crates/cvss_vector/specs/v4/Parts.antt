-- What a vector's score would be with some groups of metrics alone: CVSS v4.0 specification, sections 1.3 and 8.
use Rattle.std.specs.Prelude.{◌≡◌, Bool, true, false, if◌then◌else◌, None, ℤ}
use Rattle.cvss_base.specs.Groups.{same_group}
use Rattle.cvss_base.specs.Tenths.{IsInTenths}
use Rattle.cvss_base.specs.V4Types.{group_of}
use Rattle.cvss_base.specs.declared.group.MetricGroup.{MetricGroup}
use Rattle.cvss_base.specs.declared.group.MetricGroup.TheVariants.{Threat, Environmental}
use Rattle.cvss_base.specs.declared.v4.MetricType.{MetricType}
use Rattle.cvss_score.specs.declared.v4.nomenclature.Nomenclature.{Nomenclature}
use Rattle.cvss_score.specs.declared.v4.nomenclature.Nomenclature.TheVariants.{CvssB, CvssBE, CvssBT}
use Rattle.cvss_score.specs.v4.Scores.{IsScore}
use Rattle.cvss_vector.specs.v4.Merging.{effective_of}
use Rattle.cvss_vector.specs.v4.Table.{value_at}
use Rattle.cvss_vector.specs.declared.v4.vector.Vector.{Vector}

-- the vector without its metrics of a group
pub record IsWithout (group : MetricGroup) (v new : Vector) : Type 0 where
  pub values : (kind : MetricType) → value_at new kind ≡ if same_group (group_of kind) group then None else value_at v kind
  pub minor_version : new.minor_version ≡ v.minor_version

-- whether a score of this nomenclature counts the metrics of a group; supplemental metrics change no score
abbrev pub counts : Nomenclature → MetricGroup → Bool
counts CvssB Threat = false
counts CvssB Environmental = false
counts CvssBE Threat = false
counts CvssBT Environmental = false
counts _ _ = true

-- the vector without its metrics of the groups that do not count
pub record IsPart (nomenclature : Nomenclature) (v part : Vector) : Type 0 where
  pub values : (kind : MetricType) → value_at part kind ≡ if counts nomenclature (group_of kind) then value_at v kind else None
  pub minor_version : part.minor_version ≡ v.minor_version

-- the count is the vector's score by a nomenclature: the score of the vector without its metrics of the other groups
pub record IsScoreBy (nomenclature : Nomenclature) (v : Vector) (count : ℤ) : Type 0 where
  pub part : Vector
  pub is_part : IsPart nomenclature v part
  pub scored : IsInTenths (IsScore (effective_of part)) count
