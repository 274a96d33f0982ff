use Rattle.std.proofs.Common.{refl}
use Rattle.cvss_vector.specs.Reasons.{error_message}
use Rattle.cvss_lines.proofs.TextsLemmas.{accepted_by, rejected_by}
use Rattle.cvss_report.specs.Rows.{cells_text, rejected_fields}
use Rattle.cvss_report.proofs.rows.write_cells.Goals as goal

pub returns-in_ok-write_vector_cells-in-Ok : goal.returns-in_ok-write_vector_cells-in-Ok
returns-in_ok-write_vector_cells-in-Ok c = λ number.
    let row = c.in_ok-write_vector_cells-in-Ok.ensures in
    accepted_by _ _ number c.args.line.now (cells_text c.args.format row.fields) _ _ row.written
    (record {
      utf8 = c.in-Ok.ensures.utf8;
      vector = c.in-Ok.cvss;
      denoted = c.in-Ok.ensures.denoted;
      complete = c.in-Ok.ensures.complete;
      fields = row.fields;
      are = row.are;
      is = refl;
    })

pub returns-in_ok-write_fields-in-Err : goal.returns-in_ok-write_fields-in-Err
returns-in_ok-write_fields-in-Err c = λ number.
    rejected_by _ _ number c.args.line.now (cells_text c.args.format (rejected_fields (error_message c.in-Err.error))) _ _
    (rw (c.rejected_fields.ensures, c.deref.ensures.value, c.in_ok-reason-in-Err.ensures) at c.in_ok-write_fields-in-Err.ensures)
    (record { error = c.in-Err.error; is_right = c.in-Err.ensures.error; is = refl })
