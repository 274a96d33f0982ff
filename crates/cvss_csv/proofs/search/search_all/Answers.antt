use Rattle.cvss_csv.specs.Fields.{fields}
use Rattle.cvss_csv.specs.private.Cutting.{fields_left}
use Rattle.cvss_csv.proofs.SearchLemmas.{fields_all, fields_next, fields_start}
use Rattle.cvss_csv.proofs.search.search_all.Goals as goal

pub loop-field-init : goal.loop-field-init
loop-field-init g c = fields_start g.N.Notes.is_of (fields c.args.body.now) (fields_left c.of-fields.result) c.args.notes.now c.of-fields.ensures

pub loop-field-preserved : goal.loop-field-preserved
loop-field-preserved g c =
    fields_next g.N.Notes.is_of (fields c.args.body.now) (fields_left c.loop-field.fields) _ c.in-Some.field.now c.args.notes.now c.loop-field.notes _
    c.loop-field.invariant c.in-Some.ensures.steps c.in_ok-search_field.ensures

pub returns : goal.returns
returns g c = fields_all g.N.Notes.is_of (fields c.args.body.now) (fields_left c.loop-field.fields) c.args.notes.now c.loop-field.notes c.loop-field.invariant c.in_default.ensures.steps
