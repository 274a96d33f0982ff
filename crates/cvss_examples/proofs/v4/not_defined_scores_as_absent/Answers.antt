use Rattle.std.proofs.Common.{sym, ◌∙◌}
use Rattle.cvss.specs.ScoresV4.{IsScore}
use Rattle.cvss_examples.proofs.EqualLemmas.{one_value}
use Rattle.cvss_examples.proofs.v4.not_defined_scores_as_absent.Goals as goal

pub returns-clause-same : goal.returns-clause-same
returns-clause-same c =
    let same = c.not_defined_scores_as_absent.ensures c.args.left.now c.args.right.now c.requires.letters in
    let scores = one_value IsScore same (c.scores_are_unique.ensures _) _ _ c.score.ensures.value c.score-2.ensures.value in
    let values = c.value.ensures ∙ scores ∙ sym c.value-2.ensures in
    cc
