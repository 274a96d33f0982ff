use Rattle.std.proofs.Common.{subst}
use Rattle.std.proofs.lemmas.Result.{on_ok_weaker}
use Rattle.cvss_csv.specs.Tallies.{kept_in}
use Rattle.cvss_csv.specs.private.Answering.{WritesRows}
use Rattle.cvss_csv.proofs.RowsLemmas.{rows_found}
use Rattle.cvss_csv.proofs.answer.Answerer.push_rows.Goals as goal

pub returns-clause-rows : goal.returns-clause-rows
returns-clause-rows c =
    let asked = c.args.self.now.asked in
    let body = c.args.cut.now.body.now in
    let line_end = c.args.cut.now.line_end.now in
    on_ok_weaker c.push_all.result
    (λ rows. rows_found asked body line_end c.args.cells c.args.out.now.bytes.items c.push_all.new.out.bytes.items c.args.summary.now c.push_all.new.summary c.clear.new.self c.search.new.notes c.clear.ensures c.in_ok-search.ensures
    (subst (λ all. WritesRows asked body line_end (kept_in all) c.args.out.now.bytes.items c.push_all.new.out.bytes.items c.args.summary.now c.push_all.new.summary) c.deref.ensures.value rows))
    c.push_all.ensures
