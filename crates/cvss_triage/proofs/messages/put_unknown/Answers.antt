use Rattle.cvss_json.proofs.AddsLemmas.{join2}
use Rattle.cvss_triage.proofs.messages.put_unknown.Goals as goal

pub returns : goal.returns
returns g c = join2 c.push.ensures (join2 c.put_shown.ensures c.push-2.ensures)
