use Rattle.cvss_laws.proofs.v3.LawLemmas.{temporal_at_most_base}
use Rattle.cvss_laws.proofs.v3.temporal_is_at_most_base.Goals as goal

pub returns : goal.returns
returns c = temporal_at_most_base
