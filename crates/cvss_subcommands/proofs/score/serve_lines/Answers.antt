use Rattle.cvss_subcommands.proofs.score.serve_lines.Goals as goal

pub returns-in-Some : goal.returns-in-Some
returns-in-Some g c = rw c.in-Some.is c.serve_operands.ensures

pub returns-in-None : goal.returns-in-None
returns-in-None g c = rw c.in-None.is c.serve_operands-in-None.ensures
