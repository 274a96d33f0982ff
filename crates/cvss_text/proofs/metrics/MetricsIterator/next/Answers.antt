use Rattle.std.proofs.Common.{length, ap, arith}
use Rattle.std.proofs.lemmas.Grind.{common_steps}
use Rattle.cvss_text.proofs.metrics.MetricsIterator.next.Goals as goal

pub returns-in-Some-spelling-clause-steps : goal.returns-in-Some-spelling-clause-steps
returns-in-Some-spelling-clause-steps g c = grind (arith, common_steps)

pub returns-in-Some-spelling-clause-goes : goal.returns-in-Some-spelling-clause-goes
returns-in-Some-spelling-clause-goes g c =
    let fewer = ap length (returns-in-Some-spelling-clause-steps g c) in
    record { on = λ _. (tt, tt, omega (arith, fewer)); keeps = tt; rests = λ _. tt }

pub loop-kind-preserved : goal.loop-kind-preserved
loop-kind-preserved g c = grind (arith, common_steps)
