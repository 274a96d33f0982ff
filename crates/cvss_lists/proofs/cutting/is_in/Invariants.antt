use Rattle.std.proofs.Common.{◌≡◌, length}
use Rattle.cvss_lists.specs.Departures.{is_in}
use Rattle.cvss_lists.specs.private.Cutting.{pieces_after}
use Rattle.cvss_lists.proofs.cutting.is_in.Given as goal

abbrev pub invariant-loop-left : goal.invariant-loop-left
invariant-loop-left l = is_in l.piece (pieces_after l.fn.text) ≡ is_in l.piece (pieces_after l.left)

abbrev pub decreases-loop-left : goal.decreases-loop-left
decreases-loop-left l = length (pieces_after l.left)
