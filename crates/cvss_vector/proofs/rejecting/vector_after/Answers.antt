use Rattle.std.proofs.Common.{subst}
use Rattle.cvss_base.specs.Reported.{Reports}
use Rattle.cvss_vector.proofs.rejecting.vector_after.Goals as goal

pub returns-in-Ok-clause-denoted : goal.returns-in-Ok-clause-denoted
returns-in-Ok-clause-denoted g c = rw c.as_bytes.ensures.value at c.in-Ok.ensures.denoted

pub returns-in-Ok-clause-well_formed : goal.returns-in-Ok-clause-well_formed
returns-in-Ok-clause-well_formed g c = c.in-Ok.ensures.well_formed

pub returns-in-Ok-clause-accepts : goal.returns-in-Ok-clause-accepts
returns-in-Ok-clause-accepts g c = λ v denotes formed. let same = (rw c.as_bytes.ensures.value at c.in-Ok.ensures.accepts) v denotes formed in cc

pub returns-in-Ok-clause-rejects : goal.returns-in-Ok-clause-rejects
returns-in-Ok-clause-rejects g c = rw c.as_bytes.ensures.value at c.in-Ok.ensures.rejects

pub returns-in-Err-clause-accepts : goal.returns-in-Err-clause-accepts
returns-in-Err-clause-accepts g c = λ v denotes formed. let same = (rw c.as_bytes.ensures.value at c.in-Err.ensures.accepts) v denotes formed in cc

pub returns-in-Err-clause-rejected : goal.returns-in-Err-clause-rejected
returns-in-Err-clause-rejected g c = record { reason = _; first = rw c.as_bytes.ensures.value at c.in-Err.ensures.rejected; reported = c.error_of_version.ensures }

pub returns-in-Err-clause-rejects : goal.returns-in-Err-clause-rejects
returns-in-Err-clause-rejects g c = λ reason first.
    subst (λ other. Reports g.V.OneVersion.reason other c.error_of_version.result) ((rw c.as_bytes.ensures.value at c.in-Err.ensures.rejects) reason first) c.error_of_version.ensures
