use Rattle.cvss_json.proofs.AddsLemmas.{nothing}
use Rattle.cvss_audit.proofs.written.line.put_names.Goals as goal

pub loop-name-init : goal.loop-name-init
loop-name-init g c = nothing
