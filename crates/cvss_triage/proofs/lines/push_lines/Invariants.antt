use Rattle.std.proofs.Common.{◌≡◌, ◌++◌, length, map}
use Rattle.cvss_lines.specs.Lines.{lines}
use Rattle.cvss_triage.specs.Lines.{ranked_line}
use Rattle.cvss_triage.specs.private.Steps.{rows_of}
use Rattle.cvss_triage.proofs.lines.push_lines.Given as goal

abbrev pub invariant-loop-line : goal.invariant-loop-line
invariant-loop-line l = rows_of l.lines.items ++ map ranked_line (lines l.left) ≡ rows_of l.fn.lines.items ++ map ranked_line (lines l.fn.text)

abbrev pub decreases-loop-line : goal.decreases-loop-line
decreases-loop-line l = length l.left
