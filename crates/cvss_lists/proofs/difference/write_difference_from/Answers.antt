use Rattle.std.proofs.Common.{[], ◌∷◌, codes, inl, inr, refl}
use Rattle.std.proofs.lemmas.Result.{IfOk-weaker}
use Rattle.cvss_lines.proofs.TextsLemmas.{one_text}
use Rattle.cvss_lines.specs.Answers.{Rejected}
use Rattle.cvss_lists.specs.Differences.{no_vector_text}
use Rattle.cvss_lists.proofs.difference.write_difference_from.Goals as goal

pub returns-in-Ok : goal.returns-in-Ok
returns-in-Ok c =
    let read = c.in-Ok.ensures in
    IfOk-weaker c.write_comparison.result _ _ (λ accepted writes. record {
      answer = writes.answer;
      answers = inr (record {
        after = c.in-Ok.after;
        is_after = record { utf8 = read.utf8; denoted = read.denoted; complete = read.complete };
        compared = writes.compares;
      });
      reported = writes.reported;
      written = writes.written;
    }) c.write_comparison.ensures

pub returns-in_ok-write_no_vector-in-Err : goal.returns-in_ok-write_no_vector-in-Err
returns-in_ok-write_no_vector-in-Err c = record {
  answer = Rejected (no_vector_text (codes "second") c.in-Err.error ∷ []);
  answers = inl (record { error = c.in-Err.error; is_right = c.in-Err.ensures.error; is = refl });
  reported = refl;
  written = one_text c.args.answers.now.bytes.items (no_vector_text (codes "second") c.in-Err.error) _ c.in_ok-write_no_vector-in-Err.ensures;
}
