use Rattle.std.proofs.Common.{◌≡◌, [], None, Some, refl, sym, subst, inl, inr, append-nil}
use Rattle.std.proofs.lemmas.Bool.{iff_false}
use Rattle.std.proofs.lemmas.Result.{IfOk-weaker, MatchResult-weaker}
use Rattle.cvss_lines.proofs.StepsLemmas.{reported_fault}
use Rattle.cvss_lines.specs.Answers.{Accepted, Rejected}
use Rattle.cvss_lines.specs.declared.fault.RunFault.TheVariants.{Memory}
use Rattle.serde_json.specs.Read.{read}
use Rattle.serde_json.specs.View.{view}
use Rattle.cvss_audit.specs.Answers.{IsAnswer}
use Rattle.cvss_audit.specs.Inputs.{input_view}
use Rattle.cvss_audit.proofs.FoundLemmas.{Stops-document, Stops-waiting, Streams-document, Streams-waiting}
use Rattle.cvss_audit.proofs.written.answer.answer_text.Goals as goal

pub returns-then-is_passed_over-clause-streamed : goal.returns-then-is_passed_over-clause-streamed
unfolding IsAnswer
returns-then-is_passed_over-clause-streamed g c =
    Streams-waiting (input_view c.args.input) c.args.text.now _ _ (g.W.Write.contents c.args.writer.now) _ (Accepted [])
    (inl (record { blank = sym c.if-is_passed_over.ensures; is = refl })) refl (sym (append-nil c.args.answers.now.bytes.items))

pub returns-in_err-reject_text-clause-stopped : goal.returns-in_err-reject_text-clause-stopped
returns-in_err-reject_text-clause-stopped g c =
    reported_fault c.from_residual.result Memory _ c.from_residual.ensures.1
    (Stops-waiting (input_view c.args.input) c.args.text.now c.args.answers.now.bytes.items (g.W.Write.contents c.args.writer.now))

pub returns-in_default-clause-streamed : goal.returns-in_default-clause-streamed
unfolding IsAnswer
returns-in_default-clause-streamed g c =
    let written = c.in_ok-reject_text.ensures in
    Streams-waiting (input_view c.args.input) c.args.text.now _ _ (g.W.Write.contents c.args.writer.now) _ (Rejected written.texts)
    (inr (inl (record {
      not_utf8 = c.in_default.ensures.cases.0;
      rejected = record {
        texts = written.texts;
        are_texts = written.are;
        is = refl;
      };
    })))
    refl written.written

pub returns-in_err-reject_json-in-Err-2-clause-stopped : goal.returns-in_err-reject_json-in-Err-2-clause-stopped
returns-in_err-reject_json-in-Err-2-clause-stopped g c =
    reported_fault c.from_residual-in_err-reject_json-in-Err-2.result Memory _ c.from_residual-in_err-reject_json-in-Err-2.ensures.1
    (Stops-waiting (input_view c.args.input) c.args.text.now c.args.answers.now.bytes.items (g.W.Write.contents c.args.writer.now))

pub returns-in-Ok-from_str-clause-streamed : goal.returns-in-Ok-from_str-clause-streamed
returns-in-Ok-from_str-clause-streamed g c =
    let text = c.in-Ok.ensures.cases in
    let reads = subst (λ text. read text ≡ Some (view c.in-Ok-from_str.document)) text.0 c.in-Ok-from_str.ensures.ok in
    IfOk-weaker c.answer_document.result _ _
    (λ agree. Streams-document (input_view c.args.input) c.args.text.now _ _ _ _ agree (view c.in-Ok-from_str.document) text.1 reads)
    c.answer_document.ensures.streamed

pub returns-in-Ok-from_str-clause-stopped : goal.returns-in-Ok-from_str-clause-stopped
returns-in-Ok-from_str-clause-stopped g c =
    let text = c.in-Ok.ensures.cases in
    let reads = subst (λ text. read text ≡ Some (view c.in-Ok-from_str.document)) text.0 c.in-Ok-from_str.ensures.ok in
    MatchResult-weaker c.answer_document.result c.answer_document.ensures.stopped (λ _ u. u)
    (λ fault. Stops-document (input_view c.args.input) c.args.text.now _ _ _ fault (view c.in-Ok-from_str.document) reads)

pub returns-in_ok-reject_json-in-Err-2-clause-streamed : goal.returns-in_ok-reject_json-in-Err-2-clause-streamed
unfolding IsAnswer
returns-in_ok-reject_json-in-Err-2-clause-streamed g c =
    let text = c.in-Ok.ensures.cases in
    let written = c.in_ok-reject_json-in-Err-2.ensures in
    Streams-waiting (input_view c.args.input) c.args.text.now _ _ (g.W.Write.contents c.args.writer.now) _ (Rejected written.texts)
    (inr (inr (inl (record {
      utf8 = text.1;
      not_blank = sym c.if-is_passed_over.ensures;
      unread = subst (λ text. read text ≡ None) text.0 (c.in-Err.ensures.err (iff_false c.is_memory.ensures c.if-is_memory.false));
      line = c.line.result;
      column = c.column.result;
      rejected = record {
        texts = written.texts;
        are_texts = written.are;
        is = refl;
      };
    }))))
    refl written.written
