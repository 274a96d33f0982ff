use Rattle.cvss_lists.proofs.ShownLemmas.{accepted, rejected}
use Rattle.cvss_lists.proofs.shown.ShownAnswering.answer_line.Goals as goal

pub returns-then-accepted : goal.returns-then-accepted
returns-then-accepted g c =
    accepted (g.A.Answering.rule c.args.self.now.answer) c.args.number c.args.line.now _ _ (rw c.if-accepted.true at c.in_ok-accepted.ensures)

pub returns : goal.returns
returns g c =
    rejected (g.A.Answering.rule c.args.self.now.answer) (g.met.A.LineAnswer.one_text c.args.self.now.answer) c.args.number c.args.line.now _ _ _
    (rw c.if-accepted.false at c.in_ok-accepted.ensures) (rw c.waiting_bytes-waiting.ensures at c.in_ok-show_after.ensures)
