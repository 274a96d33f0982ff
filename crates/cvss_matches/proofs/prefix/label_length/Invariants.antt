use Rattle.std.proofs.Common.{length}
use Rattle.cvss_matches.proofs.LabelLemmas.{IsAfterBytes}
use Rattle.cvss_matches.proofs.prefix.label_length.Given as goal

abbrev pub invariant-loop-left : goal.invariant-loop-left
invariant-loop-left l = IsAfterBytes l.fn.text l.left

abbrev pub decreases-loop-left : goal.decreases-loop-left
decreases-loop-left l = length l.left
