use Rattle.std.proofs.Common.{◌≤◌}
use Rattle.cvss_matches.proofs.passing.run_start.Given as goal

abbrev pub invariant-loop-start : goal.invariant-loop-start
invariant-loop-start l = l.start ≤ l.fn.end

abbrev pub decreases-loop-start : goal.decreases-loop-start
decreases-loop-start l = l.start
