use Rattle.std.proofs.Common.{length}
use Rattle.cvss_base.specs.Text.{pieces}
use Rattle.cvss_text.specs.private.Pieces.{pieces_left, IsAfterComponents}
use Rattle.cvss_text.proofs.pieces.first_bad_piece.Given as goal

abbrev pub invariant-loop-rest : goal.invariant-loop-rest
invariant-loop-rest l = IsAfterComponents (pieces l.fn.text) (pieces_left l.left)

abbrev pub decreases-loop-rest : goal.decreases-loop-rest
decreases-loop-rest l = length (pieces_left l.left)
