use Rattle.cvss_json.proofs.AddsLemmas.{join2}
use Rattle.cvss_triage.proofs.rows.put_first_members.Goals as goal

pub returns : goal.returns
returns g c =
    join2 c.push.ensures (join2 c.put_file.ensures (join2 c.push-2.ensures (join2 c.put_whole.ensures (join2 c.push-3.ensures c.put_given.ensures))))
