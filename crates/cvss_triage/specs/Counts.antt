-- How many of the rows that are shown have each severity, and how many lines have no row.
use Rattle.std.specs.Prelude.{List, map, Option, None, Some}
use Rattle.std.specs.List.{fold}
use Rattle.cvss_base.specs.declared.severity.Severity.{Severity}
use Rattle.cvss_report.specs.Tallies.{no_tally, with_one}
use Rattle.cvss_report.specs.declared.gate.Gate.{Gate}
use Rattle.cvss_report.specs.declared.tally.Tally.{Tally}
use Rattle.cvss_vector.specs.Answers.{severity_by, score_of_tenths}
use Rattle.cvss_triage.specs.Shown.{shown_rows}
use Rattle.cvss_triage.specs.declared.ranking.BadLine.{BadLine}
use Rattle.cvss_triage.specs.declared.ranking.Ranking.{Ranking}
use Rattle.cvss_triage.specs.declared.row.Row.{Row}

-- the severity of a row's score
abbrev pub severity_of : Row → Severity
severity_of row = severity_by row.vector (score_of_tenths row.tenths)

-- these are counted after others, each by its severity, or as rejected
abbrev pub tally_after : Tally → List (Option Severity) → Tally
tally_after tally counted = fold (λ tally severity. with_one severity tally) tally counted

-- the numbers of rows that are shown, by their severities
abbrev pub tally_of_rows : Gate → List Row → Tally
tally_of_rows gate rows = tally_after no_tally (map (λ row. Some (severity_of row)) (shown_rows gate rows))

-- and that of the lines without a row, as rejected
abbrev pub with_bad : List BadLine → Tally → Tally
with_bad bad tally = tally_after tally (map (λ it. None) bad)

abbrev pub tally_of : Gate → Ranking → Tally
tally_of gate ranking = with_bad ranking.bad.items (tally_of_rows gate ranking.rows.items)
