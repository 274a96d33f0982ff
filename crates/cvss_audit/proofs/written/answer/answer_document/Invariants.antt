use Rattle.std.proofs.Common.{length}
use Rattle.cvss_audit.specs.Inputs.{input_view}
use Rattle.cvss_audit.specs.private.Writing.{StreamsFound}
use Rattle.cvss_audit.specs.Locations.{locations_in}
use Rattle.cvss_audit.specs.LocationsLeft.{locations_left}
use Rattle.serde_json.specs.View.{view}
use Rattle.cvss_audit.proofs.written.answer.answer_document.Given as goal

abbrev pub invariant-loop-locations : goal.invariant-loop-locations
invariant-loop-locations g l =
    StreamsFound (input_view l.input) (locations_in (view l.fn.document)) (locations_left l.locations) l.fn.answers.bytes.items l.answers.bytes.items
    (g.W.Write.contents l.fn.writer) (g.W.Write.contents l.writer) l.agree

abbrev pub decreases-loop-locations : goal.decreases-loop-locations
decreases-loop-locations g l = length (locations_left l.locations)
