use Rattle.std.proofs.Common.{arith, lit<}
use Rattle.std.proofs.lemmas.Int.{ints}
use Rattle.cvss_base.proofs.ExactLemmas.{equal_trans}
use Rattle.cvss_score.proofs.v3_lemmas.EqualLemmas.{rounds_equal}
use Rattle.cvss_score.proofs.v3.weights.Weights.times_temporal.Goals as goal

pub returns-clause-value : goal.returns-clause-value
returns-clause-value c =
    rounds_equal c.args.minor_version (lit< tt) (lit< tt)
    (equal_trans (lit< tt) (record { equal = omega (arith, ints) }) c.temporal_units-product.ensures.value) _ (rw c.of.ensures at c.round_tenths.ensures.value)
