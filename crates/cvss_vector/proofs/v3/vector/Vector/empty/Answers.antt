use Rattle.std.proofs.Common.{rules}
use Rattle.cvss_base.specs.declared.v3.MetricType.TheVariants.{A}
use Rattle.cvss_vector.proofs.v3.vector.Vector.empty.Goals as goal

pub returns-clause-valueless : goal.returns-clause-valueless
returns-clause-valueless c = record { none = elim [ A ↦ search rules | _ ↦ search rules ] }
