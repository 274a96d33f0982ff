use Rattle.std.proofs.Common.{All, take}
use Rattle.cvss_triage.specs.Overrides.{HoldsForSome}
use Rattle.cvss_triage.specs.private.Steps.{AreOwnMetrics}
use Rattle.cvss_triage.proofs.own_metrics.OwnMetrics.of.Given as goal

abbrev pub invariant-loop-it : goal.invariant-loop-it
invariant-loop-it l = All HoldsForSome (take l.it-index l.fn.overrides) × AreOwnMetrics (take l.it-index l.fn.overrides) l.own
