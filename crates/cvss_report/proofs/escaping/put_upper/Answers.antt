use Rattle.cvss_json.proofs.AddsLemmas.{nothing}
use Rattle.cvss_report.proofs.escaping.put_upper.Goals as goal

pub loop-byte-init : goal.loop-byte-init
loop-byte-init g c = nothing
