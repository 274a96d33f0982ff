use Rattle.cvss_audit.proofs.PointerLemmas.{pointers_lead}
use Rattle.cvss_audit.proofs.laws.pointers_lead_to_objects.Goals as goal

pub returns : goal.returns
returns c = pointers_lead
