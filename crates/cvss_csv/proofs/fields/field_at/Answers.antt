use Rattle.cvss_csv.specs.private.Cutting.{fields_left}
use Rattle.cvss_csv.proofs.FieldLemmas.{field_here, field_later, field_none}
use Rattle.cvss_csv.proofs.fields.field_at.Goals as goal

pub returns-then-left-eq0 : goal.returns-then-left-eq0
returns-then-left-eq0 c = field_here c.loop-field.left (fields_left c.loop-field.fields) _ c.loop-field.invariant c.in-Some.field.now _ c.in-Some.ensures.steps c.if-left-eq0.true

pub loop-field-preserved : goal.loop-field-preserved
loop-field-preserved c = field_later c.loop-field.left (fields_left c.loop-field.fields) _ c.loop-field.invariant c.in-Some.field.now _ c.in-Some.ensures.steps c.if-left-eq0.false

pub returns : goal.returns
returns c = field_none c.loop-field.left (fields_left c.loop-field.fields) _ c.loop-field.invariant c.in_default.ensures.steps
