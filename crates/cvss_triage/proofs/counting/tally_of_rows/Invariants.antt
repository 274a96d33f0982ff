use Rattle.std.proofs.Common.{◌≡◌, drop}
use Rattle.cvss_triage.specs.Counts.{tally_of_rows}
use Rattle.cvss_triage.proofs.CountLemmas.{with_left}
use Rattle.cvss_triage.proofs.counting.tally_of_rows.Given as goal

-- with the rows that are left it is the tally of all
abbrev pub invariant-loop-row : goal.invariant-loop-row
invariant-loop-row l = with_left l.fn.gate l.tally (drop l.row-index l.fn.rows) ≡ tally_of_rows l.fn.gate l.fn.rows
