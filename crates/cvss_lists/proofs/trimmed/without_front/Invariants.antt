use Rattle.std.proofs.Common.{◌≡◌, length}
use Rattle.cvss_lists.specs.Trimmed.{without_front}
use Rattle.cvss_lists.proofs.trimmed.without_front.Given as goal

abbrev pub invariant-loop-left : goal.invariant-loop-left
invariant-loop-left l = without_front l.line ≡ without_front l.left

abbrev pub decreases-loop-left : goal.decreases-loop-left
decreases-loop-left l = length l.left
