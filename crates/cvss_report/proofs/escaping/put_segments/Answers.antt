use Rattle.cvss_json.proofs.AddsLemmas.{nothing}
use Rattle.cvss_report.proofs.escaping.put_segments.Goals as goal

pub loop-segment-init : goal.loop-segment-init
loop-segment-init g c = nothing
