-- Which of the ranked rows are shown, and on which triage fails, by their scores.
use Rattle.std.specs.Prelude.{◌||◌, List}
use Rattle.std.specs.List.{filter, list_any}
use Rattle.cvss_frame.specs.declared.served.Served.{Served}
use Rattle.cvss_report.specs.Gates.{fails, shows}
use Rattle.cvss_report.specs.declared.gate.Gate.{Gate}
use Rattle.cvss_triage.specs.declared.row.Row.{Row}

-- the rows that score at least the gate's minimum
abbrev pub shown_rows : Gate → List Row → List Row
shown_rows gate rows = filter (λ row. shows gate row.tenths) rows

-- what triage comes to: it fails if one of the rows that are shown scores as much as the gate fails on
abbrev pub after_gate : Gate → List Row → Served → Served
after_gate gate rows served = record served { rejected = served.rejected || list_any (λ row. fails gate row.tenths) rows }
