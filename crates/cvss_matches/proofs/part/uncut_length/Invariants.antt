use Rattle.std.proofs.Common.{◌≡◌, ◌+◌, ◌≤◌, length}
use Rattle.cvss_matches.specs.private.Passing.{uncut_length}
use Rattle.cvss_matches.proofs.part.uncut_length.Given as goal

abbrev pub invariant-loop-after : goal.invariant-loop-after
invariant-loop-after l = record {
  within : length l.left ≤ length l.fn.text;
  value : uncut_length l.fn.text + length l.left ≡ length l.fn.text + uncut_length l.left;
}

abbrev pub decreases-loop-after : goal.decreases-loop-after
decreases-loop-after l = length l.left
