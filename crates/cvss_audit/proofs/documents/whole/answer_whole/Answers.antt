use Rattle.std.proofs.Common.{[], refl, sym, subst}
use Rattle.std.specs.Io.KnownBytes.{Consumes}
use Rattle.cvss_lines.proofs.StepsLemmas.{reported}
use Rattle.cvss_audit.specs.Inputs.{input_view}
use Rattle.cvss_audit.specs.Whole.{WholeEnds}
use Rattle.cvss_audit.specs.private.Writing.{Answers, StopsAnswering}
use Rattle.cvss_audit.proofs.WholeLemmas.{WholeEnds-cut, WholeEnds-stopped}
use Rattle.cvss_audit.proofs.documents.whole.answer_whole.Goals as goal

pub returns-in_err-accepted : goal.returns-in_err-accepted
returns-in_err-accepted g c =
    let input = input_view c.args.input in
    let unread = g.R.Read.remaining c.args.reader.now in
    let unread' = g.R.Read.remaining c.read_whole.new.reader in
    let written = g.W.Write.contents c.args.writer.now in
    let written' = g.W.Write.contents c.answer_text.new.writer in
    let text = c.deref.result.now in
    let fault = c.in_err-accepted.field-0.0 in
    let consumed = subst (Consumes unread unread') (sym c.deref.ensures.value) c.in_ok-text.ensures.whole.0 in
    let stops = subst (λ old. StopsAnswering input text old written written' fault) c.new.ensures.items c.in_err-accepted.ensures.stopped in
    reported c.from_residual-in_err-accepted.result fault (WholeEnds input unread unread' written written') c.from_residual-in_err-accepted.ensures.1
    (WholeEnds-stopped input unread unread' written text consumed c.in_ok-text.ensures.whole.1 written' fault _ stops refl)

pub returns-in_err-write_whole : goal.returns-in_err-write_whole
returns-in_err-write_whole g c =
    let input = input_view c.args.input in
    let unread = g.R.Read.remaining c.args.reader.now in
    let unread' = g.R.Read.remaining c.read_whole.new.reader in
    let written = g.W.Write.contents c.args.writer.now in
    let written' = g.W.Write.contents c.answer_text.new.writer in
    let written'' = g.W.Write.contents c.write_whole.new.writer in
    let text = c.deref.result.now in
    let waits = c.deref-2.result.now in
    let accepted = c.in_ok-accepted.accepted in
    let fault = c.in_err-write_whole.field-0.0 in
    let consumed = subst (Consumes unread unread') (sym c.deref.ensures.value) c.in_ok-text.ensures.whole.0 in
    let answers = subst (λ old. Answers input text old c.answer_text.new.answers.bytes.items written written' accepted) c.new.ensures.items c.in_ok-accepted.ensures.streamed in
    let waiting = subst (λ new. Answers input text [] new written written' accepted) (sym c.deref-2.ensures.value) answers in
    reported c.from_residual-in_err-write_whole.result fault (WholeEnds input unread unread' written written'') c.from_residual-in_err-write_whole.ensures.1
    (WholeEnds-cut input unread unread' written text consumed c.in_ok-text.ensures.whole.1 written' written'' waits accepted fault _ waiting c.in_err-write_whole.ensures.err refl)
