use Rattle.std.proofs.Common.{List, ℕ, ap, arith, length}
use Rattle.cvss_csv.specs.Fields.{comma, fields}
use Rattle.cvss_csv.specs.declared.state.State.TheVariants.{Start}
use Rattle.cvss_csv.specs.private.Cutting.{fields_left}
use Rattle.cvss_csv.proofs.LayoutLemmas.{index_later, index_start, some_pieces}
use Rattle.cvss_csv.proofs.layout.index_of.Goals as goal

pub loop-field-init : goal.loop-field-init
loop-field-init c = record {
  counted = omega (arith, ap (length {A = List ℕ}) c.of-fields.ensures);
  index = index_start c.args.name.now (fields c.args.body.now) (fields_left c.of-fields.result) c.of-fields.ensures;
}

pub overflow_add-at : goal.overflow_add-at
overflow_add-at c = omega (arith, c.loop-field.invariant.counted, ap (length {A = List ℕ}) c.in-Some.ensures.steps, some_pieces comma Start c.args.body.now)

pub loop-field-preserved : goal.loop-field-preserved
loop-field-preserved c = record {
  counted = omega (arith, c.loop-field.invariant.counted, ap (length {A = List ℕ}) c.in-Some.ensures.steps);
  index = index_later c.loop-field.at c.args.name.now (fields_left c.loop-field.fields) _ c.loop-field.invariant.index c.in-Some.field.now _ _
      c.in-Some.ensures.steps c.in_ok-has_value.ensures c.if-branch.false;
}
