use Rattle.cvss_base.specs.declared.v4.MetricType.TheVariants.{AC}
use Rattle.cvss_vector.proofs.one_version.V4VectorVersioned.without_metrics.Goals as goal

pub returns-clause-valueless : goal.returns-clause-valueless
returns-clause-valueless c =
    let fields = c.default-empty.ensures in
    let later = fields.1.1.1.1.1.1.1.1.1.1.1.1.1.1.1.1 in elim [ AC ↦ search | _ ↦ search ]
