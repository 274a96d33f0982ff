use Rattle.cvss_triage.proofs.own_metrics.OwnMetrics.set.Goals as goal

pub returns-then-in_v3-clause-set : goal.returns-then-in_v3-clause-set
returns-then-in_v3-clause-set c = λ before are. record {
  in_v2 = c.set_in-in_v2.ensures.set before are.in_v2;
  in_v3 = c.set_in-in_v3.ensures.set before are.in_v3;
  in_v4 = c.set_in-in_v4.ensures.set before are.in_v4;
}

pub returns-else-in_v3-clause-set : goal.returns-else-in_v3-clause-set
returns-else-in_v3-clause-set c = λ before are. record {
  in_v2 = c.set_in-in_v2.ensures.set before are.in_v2;
  in_v3 = c.set_in-in_v3.ensures.set before are.in_v3;
  in_v4 = c.set_in-in_v4.ensures.set before are.in_v4;
}
