use Rattle.std.proofs.Common.{◌++◌, codes, refl}
use Rattle.cvss_vector.specs.Reasons.{error_message}
use Rattle.cvss_lines.specs.Answers.{written_text}
use Rattle.cvss_lines.proofs.TextsLemmas.{accepted_by, rejected_by}
use Rattle.cvss_explain.proofs.PartLemmas.{closed}
use Rattle.cvss_explain.proofs.text.answer_explained.Goals as goal

pub returns-in_ok-push-in-Ok : goal.returns-in_ok-push-in-Ok
returns-in_ok-push-in-Ok c = λ number.
    let shown = c.in_ok-write_shown-in-Ok.ensures in
    accepted_by _ _ number c.args.line.now shown.text _ _ (closed _ shown.text _ _ shown.written c.in_ok-push-in-Ok.ensures)
    (record {
      utf8 = c.in-Ok.ensures.utf8;
      cvss = c.in-Ok.cvss;
      denoted = c.in-Ok.ensures.denoted;
      complete = c.in-Ok.ensures.complete;
      shows = shown.holds;
    })

pub returns-in_ok-push-in-Err : goal.returns-in_ok-push-in-Err
returns-in_ok-push-in-Err c = λ number.
    let error = codes "error: " ++ error_message c.in-Err.error in
    rejected_by _ _ number c.args.line.now (written_text error) _ _
    (closed _ (written_text error) _ _ c.in_ok-write_error-in-Err.ensures c.in_ok-push-in-Err.ensures)
    (record { error = error; rejected = record { error = c.in-Err.error; is_right = c.in-Err.ensures.error; is = refl }; is = refl })
