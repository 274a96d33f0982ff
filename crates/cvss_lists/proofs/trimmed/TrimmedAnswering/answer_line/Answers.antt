use Rattle.std.proofs.lemmas.Result.{IfOk-weaker}
use Rattle.cvss_lists.proofs.TrimmedLemmas.{bare_answer}
use Rattle.cvss_lists.proofs.trimmed.TrimmedAnswering.answer_line.Goals as goal

pub returns-then-has_bare_ends : goal.returns-then-has_bare_ends
returns-then-has_bare_ends g c =
    IfOk-weaker c.answer_line.result _ _ (λ accepted. bare_answer (g.A.Answering.rule c.args.self.now.answer) c.args.number c.args.line.now _ _ accepted
    (c.has_bare_ends.ensures.same c.if-has_bare_ends.true) (c.has_bare_ends.ensures.some c.if-has_bare_ends.true)) c.answer_line.ensures
