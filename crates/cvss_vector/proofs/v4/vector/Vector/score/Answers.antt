use Rattle.cvss_vector.proofs.v4.vector.Vector.score.Goals as goal

pub returns-clause-order : goal.returns-clause-order
returns-clause-order c = rw c.effective.ensures at c.score_of.ensures.order
