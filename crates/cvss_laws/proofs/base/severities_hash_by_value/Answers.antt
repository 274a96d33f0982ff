use Rattle.std.specs.Hash.{le_bytes}
use Rattle.std.proofs.Common.{rules}
use Rattle.cvss_base.specs.declared.severity.Severity.TheVariants.{None}
use Rattle.cvss_laws.proofs.base.severities_hash_by_value.Goals as goal

pub returns : goal.returns
unfolding le_bytes
returns c = elim [ None ↦ elim [ None ↦ search rules | _ ↦ search rules ] | _ ↦ elim [ None ↦ search rules | _ ↦ search rules ] ]
