use Rattle.cvss_text.proofs.PieceLemmas.{IsFirstBadPiece-next}
use Rattle.cvss_text.proofs.pieces.first_bad_piece.Goals as goal

pub returns-in-None : goal.returns-in-None
returns-in-None c = IsFirstBadPiece-next _ _ c.loop-rest.invariant _ _ _ c.in-Some.ensures c.front_of.ensures c.in-None.ensures
