use Rattle.cvss_json.proofs.AddsLemmas.{join2}
use Rattle.cvss_explain.proofs.json.put_rejection.Goals as goal

pub returns : goal.returns
returns g c =
    join2 (join2 (join2 (join2 c.put_object_start.ensures c.put_reason.ensures) c.put_line.ensures) c.put_number.ensures) c.push.ensures
