use Rattle.std.proofs.Common.{subst}
use Rattle.cvss_base.specs.Reported.{Reports}
use Rattle.cvss_base.specs.V2Types.{v2_reason}
use Rattle.cvss_vector.proofs.v2.vector.Vector.from_str.Goals as goal

pub returns-in-Ok-clause-rejects : goal.returns-in-Ok-clause-rejects
returns-in-Ok-clause-rejects c = rw c.as_bytes.ensures.value at c.in-Ok.ensures.rejects

pub returns-in-Err-clause-rejects : goal.returns-in-Err-clause-rejects
returns-in-Err-clause-rejects c = λ reason first.
    subst (λ other. Reports v2_reason other c.error_of_version.result) ((rw c.as_bytes.ensures.value at c.in-Err.ensures.rejects) reason first) c.error_of_version.ensures
