use Rattle.std.proofs.Common.{arith, lit<}
use Rattle.std.proofs.lemmas.Int.{ints}
use Rattle.cvss_base.proofs.ExactLemmas.{equal_trans}
use Rattle.cvss_score.proofs.v2_lemmas.ScoreLemmas.{base_number_equal}
use Rattle.cvss_score.proofs.v2.weights.Weights.base_number.Goals as goal

pub returns-clause-value : goal.returns-clause-value
returns-clause-value c =
    equal_trans (lit< tt) (equal_trans (lit< tt) (record { equal = omega (arith, ints) }) c.number.ensures.value)
    (base_number_equal (lit< tt) (lit< tt) c.impact.ensures.value c.exploitability.ensures.value)
