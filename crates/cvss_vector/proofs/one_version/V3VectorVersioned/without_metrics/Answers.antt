use Rattle.cvss_base.specs.declared.v3.MetricType.TheVariants.{A}
use Rattle.cvss_vector.proofs.one_version.V3VectorVersioned.without_metrics.Goals as goal

pub returns-clause-valueless : goal.returns-clause-valueless
returns-clause-valueless c = let fields = c.default-empty.ensures in elim [ A ↦ search | _ ↦ search ]
