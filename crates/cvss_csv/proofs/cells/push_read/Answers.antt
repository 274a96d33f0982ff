use Rattle.std.proofs.Common.{refl}
use Rattle.cvss_vector.specs.Reasons.{error_message}
use Rattle.cvss_csv.specs.Cells.{Reason, VectorIs}
use Rattle.cvss_csv.proofs.cells.push_read.Goals as goal

pub returns-in_ok-push_vector-in-Ok : goal.returns-in_ok-push_vector-in-Ok
returns-in_ok-push_vector-in-Ok c =
    let row = c.in_ok-push_vector-in-Ok.ensures in
    record {
      verdict = VectorIs c.in-Ok.cvss;
      is_it = record { utf8 = c.in-Ok.ensures.utf8; denoted = c.in-Ok.ensures.denoted; complete = c.in-Ok.ensures.complete };
      cells = row.cells;
      are = row.are;
      written = row.written;
      counts = refl;
    }

pub returns-in_ok-push_error_of-in-Err : goal.returns-in_ok-push_error_of-in-Err
returns-in_ok-push_error_of-in-Err c = record {
  verdict = Reason (error_message c.in-Err.error);
  is_it = (c.in-Err.error, c.in-Err.ensures.error, refl);
  cells = _;
  are = refl;
  written = c.in_ok-push_error_of-in-Err.ensures;
  counts = refl;
}
