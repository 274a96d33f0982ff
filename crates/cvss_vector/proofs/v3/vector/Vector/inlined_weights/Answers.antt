use Rattle.cvss_score.proofs.v3_lemmas.BoundLemmas.{bounded}
use Rattle.cvss_vector.proofs.v3.TableLemmas.{weights_listed}
use Rattle.cvss_vector.proofs.v3.vector.Vector.inlined_weights.Goals as goal

pub returns-clause-tables : goal.returns-clause-tables
returns-clause-tables c = rw c.weighed.ensures (weights_listed c.args.self.now)

pub returns-clause-bounded : goal.returns-clause-bounded
returns-clause-bounded c = rw c.weighed.ensures (bounded _ (weights_listed c.args.self.now))
