use Rattle.std.proofs.Common.{refl}
use Rattle.cvss_lines.proofs.TextsLemmas.{accepted_by, rejected_by}
use Rattle.cvss_vector.specs.Reasons.{error_message}
use Rattle.cvss_explain.specs.Json.{rejection_text}
use Rattle.cvss_explain.proofs.json.ExplainingAnswering.answer_line.Goals as goal

pub returns-in_ok-write_explanation-in-Ok : goal.returns-in_ok-write_explanation-in-Ok
returns-in_ok-write_explanation-in-Ok c =
    let written = c.in_ok-write_explanation-in-Ok.ensures in
    accepted_by _ _ c.args.number c.args.line.now written.text _ _ written.written
    (record {
      utf8 = c.in-Ok.ensures.utf8;
      cvss = c.in-Ok.cvss;
      denoted = c.in-Ok.ensures.denoted;
      complete = c.in-Ok.ensures.complete;
      explains = written.holds;
    })

pub returns-in_ok-write_rejection-in-Err : goal.returns-in_ok-write_rejection-in-Err
returns-in_ok-write_rejection-in-Err c =
    let text = rejection_text c.args.self.now.prefix.now c.args.number c.args.line.now (error_message c.in-Err.error) in
    rejected_by _ _ c.args.number c.args.line.now text _ _ c.in_ok-write_rejection-in-Err.ensures
    (record { error = c.in-Err.error; is_right = c.in-Err.ensures.error; is = refl })
