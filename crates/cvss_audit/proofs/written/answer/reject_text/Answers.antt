use Rattle.std.proofs.Common.{refl, subst, sym}
use Rattle.std.proofs.lemmas.Result.{on_ok_weaker}
use Rattle.cvss_audit.specs.Answers.{AreErrorTexts}
use Rattle.cvss_audit.specs.Inputs.{input_view}
use Rattle.cvss_audit.specs.private.Writing.{WritesTexts}
use Rattle.cvss_audit.proofs.WritingLemmas.{none_written, reason_written}
use Rattle.cvss_audit.proofs.written.answer.reject_text.Goals as goal

pub returns-then-input : goal.returns-then-input
returns-then-input c =
    let old = c.args.answers.now.bytes.items in
    subst (λ quiet. WritesTexts (AreErrorTexts quiet (input_view c.args.input) c.args.reason.now) old old) (sym c.if-input.true)
    (none_written _ old refl)

pub returns-else-input : goal.returns-else-input
returns-else-input c =
    let old = c.args.answers.now.bytes.items in
    let new = c.write_reason.new.answers.bytes.items in
    on_ok_weaker c.write_reason.result
    (λ line. subst (λ quiet. WritesTexts (AreErrorTexts quiet (input_view c.args.input) c.args.reason.now) old new) (sym c.if-input.false)
    (reason_written (input_view c.args.input) c.args.reason.now old new line))
    c.write_reason.ensures
