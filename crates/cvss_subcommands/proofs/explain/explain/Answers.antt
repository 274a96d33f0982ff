use Rattle.cvss_subcommands.proofs.explain.explain.Goals as goal

pub returns-then-flags : goal.returns-then-flags
returns-then-flags g c = rw c.if-flags.true c.serve_operands.ensures

pub returns-else-flags : goal.returns-else-flags
returns-else-flags g c = rw c.if-flags.false c.serve_operands-else-flags.ensures
