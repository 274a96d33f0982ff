use Rattle.cvss_triage.proofs.OwnLemmas.{own_more}
use Rattle.cvss_triage.proofs.own_metrics.OwnMetrics.of.Goals as goal

pub loop-it-preserved : goal.loop-it-preserved
loop-it-preserved c = own_more c.args.overrides.now c.loop-it.it-index _ _ c.set.new.self c.loop-it-test.true c.loop-it.invariant (c.set.ensures.holds.0 c.if-not-set.false) c.set.ensures.set
