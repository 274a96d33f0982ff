use Rattle.std.proofs.Common.{ap, subst}
use Rattle.std.proofs.lemmas.Result.{on_ok_weaker}
use Rattle.cvss_csv.specs.Tallies.{kept_in}
use Rattle.cvss_csv.specs.private.Answering.{WritesRow}
use Rattle.cvss_csv.proofs.RowsLemmas.{rows_first}
use Rattle.cvss_csv.proofs.rows.Repeated.push_all.Goals as goal

pub returns-in_ok-push_row-in-Some : goal.returns-in_ok-push_row-in-Some
returns-in_ok-push_row-in-Some c =
    let record_of = c.args.self.now in
    let first = subst (λ text. WritesRow record_of.asked record_of.cut.now.body.now record_of.cut.now.line_end.now text c.args.out.now.bytes.items c.push_row.new.out.bytes.items c.args.summary.now c.push_row.new.summary)
    c.deref.ensures.value c.in_ok-push_row-in-Some.ensures in
    on_ok_weaker c.push_later.result
    (λ later. rows_first record_of.asked record_of.cut.now.body.now record_of.cut.now.line_end.now (kept_in c.args.kept.now) (kept_in c.in-Some.more.now) c.in-Some.first.now.text.items _ _ _ c.args.summary.now _ _
    (ap kept_in c.in-Some.ensures.cases.0) first later)
    c.push_later.ensures
