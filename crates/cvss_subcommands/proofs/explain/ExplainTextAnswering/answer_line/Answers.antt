use Rattle.cvss_subcommands.proofs.ExplainLemmas.{accepted, rejected}
use Rattle.cvss_subcommands.proofs.explain.ExplainTextAnswering.answer_line.Goals as goal

pub returns-then-accepted : goal.returns-then-accepted
returns-then-accepted c =
    accepted c.args.self.now.what_if c.args.self.now.allow_incomplete c.args._number c.args.line.now _ _ (rw c.if-accepted.true at c.in_ok-accepted.ensures c.args._number)

pub returns : goal.returns
returns c =
    rejected c.args.self.now.what_if c.args.self.now.allow_incomplete c.args._number c.args.line.now _ _ _
    (rw c.if-accepted.false at c.in_ok-accepted.ensures c.args._number) (rw c.waiting_bytes-waiting.ensures at c.in_ok-show_rejection.ensures)
