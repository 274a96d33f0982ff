use Rattle.std.proofs.Common.{◌≡◌, Option, refl, ap}
use Rattle.cvss_base.specs.V4Types.{group_of}
use Rattle.cvss_base.specs.declared.group.MetricGroup.{MetricGroup}
use Rattle.cvss_base.specs.declared.group.MetricGroup.TheVariants.{Supplemental}
use Rattle.cvss_base.specs.declared.v4.MetricType.{MetricType}
use Rattle.cvss_vector.specs.v4.Merging.{effective_of}
use Rattle.cvss_vector.specs.v4.Nomenclature.{nomenclature_of}
use Rattle.cvss_vector.specs.v4.Table.{Value, value_at}
use Rattle.cvss_laws.specs.v4.MergingLaws.{DifferInSupplemental}
use Rattle.cvss_vector.specs.v4.private.VectorLaws.{with_values}
use Rattle.cvss_vector.specs.declared.v4.vector.Vector.{Vector}
use Rattle.cvss_laws.proofs.v4.supplemental_metrics_change_nothing.Goals as goal

-- the first vector's value for a metric of this group, if it is a supplemental one, and else the second's
abbrev value_by : Vector → Vector → (kind : MetricType) → MetricGroup → Option (Value kind)
value_by v w kind Supplemental = value_at v kind
value_by v w kind _ = value_at w kind

same_value : (v w : Vector) (kind : MetricType) (group : MetricGroup) → (¬ (group ≡ Supplemental) → value_at w kind ≡ value_at v kind) → value_by v w kind group ≡ value_at v kind
same_value v w kind = elim [ Supplemental ↦ λ _. refl | _ ↦ λ kept. kept (λ is. absurd cc) ]

-- the vector of these values scores as the second, and is the first
same_vector : (v w : Vector) → DifferInSupplemental v w → with_values v (λ kind. value_by v w kind (group_of kind)) ≡ v
same_vector v w same = λ i. with_values v (λ kind. same_value v w kind (group_of kind) (same.kept kind) i)

pub returns-clause-score : goal.returns-clause-score
returns-clause-score c = λ v w same. ap effective_of (same_vector v w same)

pub returns-clause-nomenclature : goal.returns-clause-nomenclature
returns-clause-nomenclature c = λ v w same. ap nomenclature_of (same_vector v w same)
