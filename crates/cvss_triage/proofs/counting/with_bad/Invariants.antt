use Rattle.std.proofs.Common.{◌≡◌, drop}
use Rattle.cvss_triage.specs.Counts.{with_bad}
use Rattle.cvss_triage.proofs.counting.with_bad.Given as goal

-- with the lines that are left it is the tally of all
abbrev pub invariant-loop-it : goal.invariant-loop-it
invariant-loop-it l = with_bad (drop l._it-index l.fn.bad) l.tally ≡ with_bad l.fn.bad l.fn.counted
