use Rattle.std.proofs.Common.{◌≡◌, ◌++◌, length, map}
use Rattle.cvss_csv.specs.Records.{records}
use Rattle.cvss_triage.specs.Lines.{ranked_of}
use Rattle.cvss_triage.specs.private.Steps.{rows_of}
use Rattle.cvss_triage.proofs.records.push_all.Given as goal

abbrev pub invariant-loop-record : goal.invariant-loop-record
invariant-loop-record l =
    rows_of l.lines.items ++ map (ranked_of l.fn.cells) (records l.left) ≡ rows_of l.fn.lines.items ++ map (ranked_of l.fn.cells) (records l.fn.text)

abbrev pub decreases-loop-record : goal.decreases-loop-record
decreases-loop-record l = length l.left
