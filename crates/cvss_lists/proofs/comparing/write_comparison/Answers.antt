use Rattle.std.proofs.Common.{refl}
use Rattle.cvss_lists.proofs.DifferenceLemmas.{scores_written, versions_written}
use Rattle.cvss_lists.proofs.comparing.write_comparison.Goals as goal

pub returns-in_ok-write_scores : goal.returns-in_ok-write_scores
returns-in_ok-write_scores c =
    scores_written c.args.scoring c.args.before.now c.args.after.now c.tenths_as-tenths.result c.tenths_as-other.result c.tenths_as-tenths.ensures.value c.tenths_as-other.ensures.value
    _ _ _ _ refl (rw c.if-branch.true at c.in_ok-write_changes_of.ensures) c.in_ok-write_scores.ensures

pub returns-in_ok-write_versions : goal.returns-in_ok-write_versions
returns-in_ok-write_versions c =
    versions_written c.args.scoring c.args.before.now c.args.after.now c.tenths_as-tenths.result c.tenths_as-other.result c.tenths_as-tenths.ensures.value c.tenths_as-other.ensures.value
    _ _ _ _ refl (rw c.if-branch.false at c.in_ok-write_changes_of.ensures) c.in_ok-write_versions.ensures
