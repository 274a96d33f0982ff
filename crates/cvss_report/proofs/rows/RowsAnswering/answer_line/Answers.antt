use Rattle.std.proofs.Common.{◌++◌}
use Rattle.std.proofs.lemmas.Result.{IfOk-weaker}
use Rattle.cvss_lines.specs.Prefixed.{is_one_text}
use Rattle.cvss_lines.proofs.PrefixedLemmas.{WritesAnswer-prefixed}
use Rattle.cvss_report.specs.Cells.{given_text, opening}
use Rattle.cvss_report.specs.Rows.{IsRow, cells_rule}
use Rattle.cvss_report.proofs.rows.RowsAnswering.answer_line.Goals as goal

pub returns : goal.returns
unfolding IsRow
returns c =
    let rows = c.args.self.now in
    let line = c.args.line.now in
    IfOk-weaker c.write_cells.result _ _
    (λ accepted written.
    let row = WritesAnswer-prefixed (cells_rule rows.format rows.allow_incomplete) (is_one_text _ _)
    (opening rows.format rows.named rows.prefix.now ++ given_text rows.format line) c.args.number line c.args.answers.now.bytes.items _ _ accepted
    c.in_ok-write_start.ensures written in
    record { answer = row.answer; answers = row.answers; reported = row.reported; written = row.written })
    (c.write_cells.ensures c.args.number)
