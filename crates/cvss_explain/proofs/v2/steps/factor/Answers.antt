use Rattle.std.proofs.Common.{pos, arith, lit<}
use Rattle.std.proofs.lemmas.Int.{ints}
use Rattle.cvss_base.proofs.ExactLemmas.{equal_trans}
use Rattle.cvss_score.proofs.v2_lemmas.ScoreLemmas.{f_equal, f_with_impact}
use Rattle.cvss_explain.proofs.v2.steps.factor.Goals as goal

pub returns-then-impact-eq0-clause-value : goal.returns-then-impact-eq0-clause-value
returns-then-impact-eq0-clause-value c =
    equal_trans (lit< tt) (record { equal = omega (arith, ints) })
    (rw c.if-impact-eq0.true at (f_equal (lit< tt) (lit< tt) c.impact.ensures.value))

pub returns-else-impact-eq0-clause-value : goal.returns-else-impact-eq0-clause-value
returns-else-impact-eq0-clause-value c =
    let some = f_with_impact (pos c.impact.result) (λ zero. c.if-impact-eq0.false (omega (arith, ints, zero))) in
    equal_trans (lit< tt) (record { equal = omega (arith, ints) })
    (rw some at (f_equal (lit< tt) (lit< tt) c.impact.ensures.value))
