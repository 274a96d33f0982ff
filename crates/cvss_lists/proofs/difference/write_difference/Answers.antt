use Rattle.std.proofs.Common.{[], ◌∷◌, codes, inl, inr, refl}
use Rattle.std.proofs.lemmas.Result.{IfOk-weaker}
use Rattle.cvss_lines.proofs.TextsLemmas.{one_text}
use Rattle.cvss_lines.specs.Answers.{Rejected}
use Rattle.cvss_lists.specs.Differences.{no_vector_text}
use Rattle.cvss_lists.proofs.difference.write_difference.Goals as goal

pub returns-in-Err : goal.returns-in-Err
returns-in-Err c = λ number. record {
  answer = Rejected (no_vector_text (codes "first") c.in-Err.error ∷ []);
  answers = inl (record { error = c.in-Err.error; is_right = c.in-Err.ensures.error; is = refl });
  reported = refl;
  written = one_text c.args.answers.now.bytes.items (no_vector_text (codes "first") c.in-Err.error) _ c.in_ok-write_no_vector-in-Err.ensures;
}

pub returns : goal.returns
returns c = λ number.
    let read = c.in-Ok.ensures in
    IfOk-weaker c.write_difference_from.result _ _ (λ accepted writes. record {
      answer = writes.answer;
      answers = inr (record {
        before = c.in-Ok.before;
        is_before = record { utf8 = read.utf8; denoted = read.denoted; complete = read.complete };
        is = writes.answers;
      });
      reported = writes.reported;
      written = writes.written;
    }) c.write_difference_from.ensures
