-- Vectors with the same effective values: CVSS v4.0 specification, section 4.2.
use Rattle.std.specs.Prelude.{◌≡◌, ◌⊎◌, ◌++◌, codes}
use Rattle.cvss_base.specs.V4Types.{name_of, group_of}
use Rattle.cvss_base.specs.declared.group.MetricGroup.TheVariants.{Supplemental}
use Rattle.cvss_base.specs.declared.v4.MetricType.{MetricType}
use Rattle.cvss_base.specs.declared.v4.MetricType.TheVariants.{E, AR, CR, IR}
use Rattle.cvss_vector.specs.v4.Merging.{letter_at, merged}
use Rattle.cvss_vector.specs.v4.Table.{value_at}
use Rattle.cvss_vector.specs.declared.v4.vector.Vector.{Vector}

-- the second vector has no such modified metric, and in the base metric the letter of the first's two together
pub record IsWrittenAsBase (v w : Vector) (modified base : MetricType) : Type 0 where
  pub undefined : letter_at w modified ≡ codes "X"
  pub replaced : letter_at w base ≡ merged v modified base

-- the second vector has both as the first has them
pub record IsKept (v w : Vector) (modified base : MetricType) : Type 0 where
  pub same_modified : letter_at w modified ≡ letter_at v modified
  pub same_base : letter_at w base ≡ letter_at v base

-- the second vector has each modified metric of the first as it is or written as its base metric, be it one of
-- them, some or all, and all else that is scored as it is; a modified metric is named by an M and its base metric
pub record HasModifiedAsBase (v w : Vector) : Type 0 where
  pub each : (modified base : MetricType) → name_of modified ≡ codes "M" ++ name_of base
      → IsWrittenAsBase v w modified base ⊎ IsKept v w modified base
  pub e : letter_at w E ≡ letter_at v E
  pub cr : letter_at w CR ≡ letter_at v CR
  pub ir : letter_at w IR ≡ letter_at v IR
  pub ar : letter_at w AR ≡ letter_at v AR

-- the vectors differ in supplemental metrics alone: all others have the same values in both
pub record DifferInSupplemental (v w : Vector) : Type 0 where
  pub kept : (kind : MetricType) → ¬ (group_of kind ≡ Supplemental) → value_at w kind ≡ value_at v kind
