use Rattle.cvss_vector.specs.v4.Vector.{v4}
use Rattle.cvss_triage.specs.declared.overrides.Family.TheVariants.{V4}
use Rattle.cvss_triage.specs.private.Steps.{own_value}
use Rattle.cvss_triage.proofs.OwnLemmas.{own_same}
use Rattle.cvss_triage.proofs.own_metrics.OwnMetrics.in_v4.Goals as goal

pub returns-clause-own : goal.returns-clause-own
returns-clause-own c = λ overrides are.
    c.with_own.ensures.own V4 overrides (own_same v4 V4 overrides (own_value v4 c.args.self.now.v4) (own_value v4 c.of_minor_v4.result) c.of_minor_v4.ensures.values are)
