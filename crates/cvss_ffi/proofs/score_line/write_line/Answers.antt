use Rattle.std.proofs.Common.{◌++◌, codes, inl, inr, refl}
use Rattle.cvss_vector.specs.Answers.{vector_answer}
use Rattle.cvss_vector.specs.Reasons.{error_message}
use Rattle.cvss_ffi.proofs.LengthLemmas.{length_denoted_cvss}
use Rattle.cvss_ffi.proofs.score_line.write_line.Goals as goal

pub write_line_of-requires-clause-length : goal.write_line_of-requires-clause-length
write_line_of-requires-clause-length c = length_denoted_cvss c.args.text.now c.in-Ok.cvss c.in-Ok.ensures.accepted.denoted

pub returns-in-Ok : goal.returns-in-Ok
returns-in-Ok c =
    let is = c.in-Ok.ensures in
    let line = c.write_line_of.ensures in (
      vector_answer c.in-Ok.cvss line.0,
      inl (record {
        vector = c.in-Ok.cvss;
        is_it = record { utf8 = is.utf8; denoted = is.accepted.denoted; complete = is.accepted.complete };
        tenths = line.0;
        scored = line.1;
        is = refl;
      }),
      line.2,
    )

pub returns-in-Err : goal.returns-in-Err
returns-in-Err c =
    let is = c.in-Err.ensures in (
      codes "error: " ++ error_message c.in-Err.error,
      inr (is.rejected, record { error = c.in-Err.error; is_right = is.error; is = refl }),
      rw c.of.ensures.text at c.write_message.ensures,
    )
