use Rattle.std.proofs.Common.{subst}
use Rattle.cvss_lines.proofs.StepsLemmas.{reported_fault}
use Rattle.cvss_audit.specs.Inputs.{input_view}
use Rattle.cvss_audit.specs.Locations.{locations_in}
use Rattle.cvss_audit.specs.LocationsLeft.{IsNextLocation, locations_left}
use Rattle.serde_json.specs.View.{view}
use Rattle.cvss_audit.proofs.FoundLemmas.{StopsFound-write, StreamsFound-next, StreamsFound-start}
use Rattle.cvss_audit.proofs.written.answer.answer_document.Goals as goal

pub loop-locations-init : goal.loop-locations-init
loop-locations-init g c =
    StreamsFound-start (input_view c.args.input) (locations_in (view c.args.document.now)) (locations_left c.in_ok-locations.locations)
    c.args.answers.now.bytes.items (g.W.Write.contents c.args.writer.now) c.in_ok-locations.ensures

pub returns-in_err-write_if_full-clause-stopped : goal.returns-in_err-write_if_full-clause-stopped
returns-in_err-write_if_full-clause-stopped g c =
    let next = subst (λ found. IsNextLocation (locations_left c.loop-locations.locations) found (locations_left c.next_location.new.self)) c.in-Some.is c.in_ok-location.ensures in
    reported_fault c.from_residual-in_err-write_if_full.result c.in_err-write_if_full.field-0.0 _ c.from_residual-in_err-write_if_full.ensures.1
    (StopsFound-write (input_view c.args.input) (locations_in (view c.args.document.now)) _ _ _ _ _ _ _ _ _ _ _ _ next
    c.loop-locations.invariant c.in_ok-agree.ensures c.in_err-write_if_full.ensures.cut)

pub loop-locations-preserved : goal.loop-locations-preserved
loop-locations-preserved g c =
    let next = subst (λ found. IsNextLocation (locations_left c.loop-locations.locations) found (locations_left c.next_location.new.self)) c.in-Some.is c.in_ok-location.ensures in
    StreamsFound-next (input_view c.args.input) (locations_in (view c.args.document.now)) _ _ _ _ _ _ _ _ _ _ _ _ next
    c.loop-locations.invariant c.in_ok-agree.ensures c.in_ok-write_if_full.ensures.written
