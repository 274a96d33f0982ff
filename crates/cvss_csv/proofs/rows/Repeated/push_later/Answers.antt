use Rattle.std.proofs.Common.{ap, subst, ◌∙◌}
use Rattle.cvss_csv.specs.private.Answering.{WritesRow}
use Rattle.cvss_csv.proofs.RowsLemmas.{later_none, later_row}
use Rattle.cvss_csv.proofs.rows.Repeated.push_later.Goals as goal

pub loop-each-init : goal.loop-each-init
loop-each-init c = later_none c.args.self.now.asked c.args.self.now.cut.now.body.now c.args.self.now.cut.now.line_end.now c.args.out.now.bytes.items c.args.summary.now

pub loop-each-preserved : goal.loop-each-preserved
loop-each-preserved c =
    let record_of = c.args.self.now in
    later_row record_of.asked record_of.cut.now.body.now record_of.cut.now.line_end.now c.args.kept.now c.loop-each.each-index c.each-item.result c.args.out.now.bytes.items c.loop-each.out.bytes.items _ _ c.args.summary.now c.loop-each.summary _
    c.loop-each-test.true c.loop-each.invariant c.in_ok-push_between.ensures
    (subst (λ text. WritesRow record_of.asked record_of.cut.now.body.now record_of.cut.now.line_end.now text c.push_between.new.out.bytes.items c.push_row.new.out.bytes.items c.loop-each.summary c.push_row.new.summary)
    (c.deref.ensures.value ∙ ap (λ each. each.text.items) c.each-item.is) c.in_ok-push_row.ensures)
