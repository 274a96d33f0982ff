use Rattle.cvss_csv.proofs.RowsLemmas.{row_written}
use Rattle.cvss_csv.proofs.rows.Repeated.push_row.Goals as goal

pub returns : goal.returns
returns c =
    let record_of = c.args.self.now in
    row_written record_of.asked record_of.cut.now.body.now record_of.cut.now.line_end.now c.args.text.now c.args.out.now.bytes.items _ _ _ c.in_ok-accepted.accepted c.args.summary.now _
    c.in_ok-push_shown.ensures c.in_ok-accepted.ensures c.in_ok-push.ensures c.count.ensures
