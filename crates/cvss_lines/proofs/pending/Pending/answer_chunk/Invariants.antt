use Rattle.std.proofs.Common.{length}
use Rattle.cvss_lines.proofs.ReadsLemmas.{HasRead}
use Rattle.cvss_lines.proofs.pending.Pending.answer_chunk.Given as goal

abbrev pub invariant-loop-piece : goal.invariant-loop-piece
invariant-loop-piece g l = HasRead (g.S.Service.rule l.fn.service) (g.S.Service.beginning l.fn.service) l.fn.chunk l.rest
    (g.W.Write.contents l.fn.writer) (g.W.Write.contents l.writer) l.fn.self l.self

abbrev pub decreases-loop-piece : goal.decreases-loop-piece
decreases-loop-piece g l = length l.rest
