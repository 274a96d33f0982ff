use Rattle.std.proofs.Common.{◌≡◌, ◌∷◌, length}
use Rattle.cvss_base.specs.Text.{pieces}
use Rattle.cvss_lists.specs.Departures.{first_exchanged, neighbours}
use Rattle.cvss_lists.specs.private.Cutting.{pieces_after}
use Rattle.cvss_lists.proofs.departure.first_exchanged.Given as goal

abbrev pub invariant-loop-left : goal.invariant-loop-left
invariant-loop-left l =
    first_exchanged (pieces l.canonical) (neighbours (pieces l.fn.text))
    ≡ first_exchanged (pieces l.canonical) (neighbours (l.before ∷ pieces_after l.left))

abbrev pub decreases-loop-left : goal.decreases-loop-left
decreases-loop-left l = length (pieces_after l.left)
