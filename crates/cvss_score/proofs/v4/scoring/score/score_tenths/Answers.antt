use Rattle.std.proofs.Common.{◌-◌, ◌*◌, arith, lit<, pos}
use Rattle.cvss_base.specs.Exact.{◌over◌}
use Rattle.cvss_score.specs.v4.Scores.{number}
use Rattle.cvss_score.proofs.v4_lemmas.RoundedLemmas.{v4-equal}
use Rattle.cvss_score.proofs.v4_lemmas.ScoreLawLemmas.{in_504000ths}
use Rattle.cvss_score.proofs.v4_lemmas.ScoreLemmas.{number_less_mean, zero_is}
use Rattle.cvss_score.proofs.v4.scoring.score.score_tenths.Goals as goal

pub returns-clause-value : goal.returns-clause-value
returns-clause-value c =
    let v = c.args.effective.now in
    let values = c.of-values.result in
    let count = c.mean_taken.result in
    let listed = rw c.of-values.ensures at values.listed in
    let is_mean = rw c.of-values.ensures at c.mean_taken.ensures.value in
    let left = number_less_mean v values.value count (grind arith) listed is_mean c.mean_taken.ensures.bound in
    v4-equal ((50400 * values.value - count) over 504000) (number v) (pos c.rounded.result) (lit< tt) (in_504000ths v).1 left
    (rw c.less_mean.ensures.value at c.rounded.ensures.value)

pub returns-then-not-has_impact-clause-value : goal.returns-then-not-has_impact-clause-value
returns-then-not-has_impact-clause-value c = zero_is c.args.effective.now (grind arith)
