use Rattle.std.proofs.Common.{pos}
use Rattle.cvss_tests.proofs.scoring.callers.lifted_score.Goals as goal

pub returns : goal.returns
returns c =
    let both_ways = c.a_millionth_changes_no_score.ensures c.args.effective.now (pos c.score_tenths.result) in
    both_ways.0 c.score_tenths.ensures.value
