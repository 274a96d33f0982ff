use Rattle.std.proofs.Common.{arith}
use Rattle.cvss_score.proofs.v2_lemmas.CountLemmas.{own_impact_is}
use Rattle.cvss_score.proofs.v2.weights.Weights.impact.Goals as goal

pub returns-clause-value : goal.returns-clause-value
returns-clause-value c =
    let w = c.args.self.now in
    let bounds = c.requires in
    own_impact_is w.c w.i w.a (omega (arith, bounds.c)) (omega (arith, bounds.i)) (omega (arith, bounds.a))
