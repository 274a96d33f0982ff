use Rattle.cvss_json.proofs.AddsLemmas.{join2}
use Rattle.cvss_audit.proofs.written.lines.put_difference.Goals as goal

pub returns : goal.returns
returns g c =
    join2 c.put_escaped.ensures (join2 c.push.ensures (join2 c.push-2.ensures (join2 c.push-3.ensures (join2 c.push-4.ensures c.push-5.ensures))))
