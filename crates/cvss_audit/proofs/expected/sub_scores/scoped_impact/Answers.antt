use Rattle.std.proofs.Common.{◌≡◌, arith}
use Rattle.std.proofs.lemmas.Int.{ints}
use Rattle.cvss_audit.proofs.expected.sub_scores.scoped_impact.Goals as goal

same : (c : goal.After-new) → c.new.result ≡ c.impact.result
same c = omega (arith, ints, c.new.ensures)

pub returns-clause-close : goal.returns-clause-close
returns-clause-close c = rw (same c) (rw c.weights.ensures.value at c.impact.ensures.near.close)

pub returns-clause-exact : goal.returns-clause-exact
returns-clause-exact c = rw (same c) (rw c.weights.ensures.value at c.impact.ensures.near.exact)
