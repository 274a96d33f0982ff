use Rattle.std.proofs.lemmas.Result.{IfOk-weaker}
use Rattle.cvss_lines.proofs.PrefixedLemmas.{WritesAnswer-prefixed}
use Rattle.cvss_frame.specs.Names.{shown_name}
use Rattle.cvss_frame.proofs.task.PrefixedAnswering.answer_line.Goals as goal

pub returns : goal.returns
returns g c =
    let s = c.args.self.now in
    IfOk-weaker c.answer_line.result _ _
    (λ accepted writes. WritesAnswer-prefixed (g.A.Answering.rule s.answer.now) (g.met.A.LineAnswer.one_text s.answer.now) (shown_name s.prefix.now) c.args.number c.args.line.now c.args.answers.now.bytes.items _ _ accepted
    c.in_ok-push_prefix.ensures writes)
    c.answer_line.ensures
