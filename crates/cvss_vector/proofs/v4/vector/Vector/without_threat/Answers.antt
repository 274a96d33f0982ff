use Rattle.std.proofs.Common.{refl}
use Rattle.cvss_base.specs.declared.v4.MetricType.TheVariants as metric
use Rattle.cvss_vector.proofs.v4.vector.Vector.without_threat.Goals as goal

pub returns : goal.returns
returns c = record { values = elim [ metric.AC ↦ refl | _ ↦ refl ]; minor_version = refl }
