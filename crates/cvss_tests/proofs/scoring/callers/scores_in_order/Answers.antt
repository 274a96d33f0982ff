use Rattle.std.proofs.Common.{arith, pos}
use Rattle.std.proofs.lemmas.Int.{ints}
use Rattle.cvss_tests.proofs.scoring.callers.scores_in_order.Goals as goal

pub returns : goal.returns
returns c =
    let severe = c.score_tenths in
    let mild = c.score_tenths-2 in
    let order = c.severe_values_score_no_less.ensures c.args.severe.now c.args.mild.now (pos severe.result)
    (pos mild.result) c.requires severe.ensures.value mild.ensures.value in
    omega (arith, ints, order)
