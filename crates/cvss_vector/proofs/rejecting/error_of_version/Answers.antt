use Rattle.cvss_vector.proofs.ErrorLemmas.{Reports-own}
use Rattle.cvss_vector.proofs.rejecting.error_of_version.Goals as goal

pub error_of-requires : goal.error_of-requires
error_of-requires g c = c.of_version.ensures.reportable c.requires

pub returns : goal.returns
returns g c = Reports-own g.met.V.OneVersion.error_laws _ (rw c.of_version.ensures.is at c.error_of.ensures)
