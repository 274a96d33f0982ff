use Rattle.std.proofs.Common.{◌≡◌, length}
use Rattle.cvss_base.specs.Text.{pieces}
use Rattle.cvss_lists.specs.Departures.{those_after}
use Rattle.cvss_lists.specs.private.Cutting.{pieces_after}
use Rattle.cvss_lists.proofs.cutting.rest_after.Given as goal

abbrev pub invariant-loop-left : goal.invariant-loop-left
invariant-loop-left l = those_after l.piece (pieces l.fn.text) ≡ those_after l.piece (pieces_after l.left)

abbrev pub decreases-loop-left : goal.decreases-loop-left
decreases-loop-left l = length (pieces_after l.left)
