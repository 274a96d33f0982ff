use Rattle.std.proofs.Common.{arith, lit<}
use Rattle.std.proofs.lemmas.Int.{ints}
use Rattle.cvss_base.proofs.ExactLemmas.{equal_trans}
use Rattle.cvss_score.proofs.v2.weights.Weights.adjusted_impact.Goals as goal

pub returns-clause-value : goal.returns-clause-value
returns-clause-value c = equal_trans (lit< tt) (record { equal = omega (arith, ints) }) c.adjusted_impact_count.ensures.value
