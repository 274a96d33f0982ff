use Rattle.std.proofs.Common.{◌≡◌, ◌++◌, drop, map}
use Rattle.cvss_explain.specs.Lines.{rows_text}
use Rattle.cvss_explain.specs.private.Amounts.{row_view}
use Rattle.cvss_explain.proofs.lines.write_rows.Given as goal

abbrev pub invariant-loop-row : goal.invariant-loop-row
invariant-loop-row l = l.answers.bytes.items ++ rows_text (map row_view (drop l.row-index l.rows)) ≡ l.fn.answers.bytes.items ++ rows_text (map row_view l.rows)
