use Rattle.std.proofs.Common.{rules}
use Rattle.cvss_score.proofs.v4_lemmas.CountLemmas.{severe_count}
use Rattle.cvss_score.proofs.v4.score.score_of.Goals as goal

pub returns-clause-order : goal.returns-clause-order
returns-clause-order c = λ less count severe is_score.
    severe_count c.args.effective.now less c.of_tenths.result.0 count (search rules) severe is_score
