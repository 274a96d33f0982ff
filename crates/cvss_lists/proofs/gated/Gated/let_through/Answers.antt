use Rattle.cvss_lists.proofs.GatedLemmas.{let_through}
use Rattle.cvss_lists.proofs.gated.Gated.let_through.Goals as goal

pub returns-then-accepted : goal.returns-then-accepted
returns-then-accepted g c =
    rw c.if-accepted.true at (let_through c.args.self.now.gate.quiet c.args.failing (g.A.Answering.rule c.args.self.now.answering.now) c.args.number c.args.line.now _ _ _
    c.in_ok-accepted.accepted c.in_ok-accepted.ensures (rw c.waiting_bytes-waiting.ensures at c.take_back.ensures))

pub returns-else-accepted : goal.returns-else-accepted
returns-else-accepted g c =
    rw c.if-accepted.false (rw c.if-accepted.false at (let_through c.args.self.now.gate.quiet c.args.failing (g.A.Answering.rule c.args.self.now.answering.now) c.args.number c.args.line.now _ _ _
    c.in_ok-accepted.accepted c.in_ok-accepted.ensures (rw c.waiting_bytes-waiting.ensures at c.take_back.ensures)))
