use Rattle.cvss_json.proofs.AddsLemmas.{join2}
use Rattle.cvss_audit.proofs.written.lines.put_missing.Goals as goal

pub returns : goal.returns
returns g c = join2 (join2 c.put_start.ensures (join2 c.push.ensures c.put_names.ensures)) c.push-2.ensures
