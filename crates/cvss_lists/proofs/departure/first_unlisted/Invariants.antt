use Rattle.std.proofs.Common.{◌≡◌, length}
use Rattle.cvss_base.specs.Text.{pieces}
use Rattle.cvss_lists.specs.Departures.{first_unlisted}
use Rattle.cvss_lists.specs.private.Cutting.{pieces_after}
use Rattle.cvss_lists.proofs.departure.first_unlisted.Given as goal

abbrev pub invariant-loop-left : goal.invariant-loop-left
invariant-loop-left l = first_unlisted (pieces l.canonical) (pieces l.fn.text) ≡ first_unlisted (pieces l.canonical) (pieces_after l.left)

abbrev pub decreases-loop-left : goal.decreases-loop-left
decreases-loop-left l = length (pieces_after l.left)
