use Rattle.std.proofs.Common.{sym, ◌∙◌}
use Rattle.cvss.specs.ScoresV4.{IsScore}
use Rattle.cvss_examples.proofs.EqualLemmas.{one_value}
use Rattle.cvss_examples.proofs.v4.modified_scores_as_base.Goals as goal

pub returns-clause-same : goal.returns-clause-same
returns-clause-same c =
    let same = c.modified_metrics_score_as_base_metrics.ensures c.args.vector.now c.args.base.now c.requires.letters in
    let scores = one_value IsScore same (c.scores_are_unique.ensures _) _ _ c.score.ensures.value c.score-2.ensures.value in
    let values = c.value.ensures ∙ scores ∙ sym c.value-2.ensures in
    cc
