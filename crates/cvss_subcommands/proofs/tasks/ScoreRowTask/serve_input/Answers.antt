use Rattle.cvss_subcommands.proofs.tasks.ScoreRowTask.serve_input.Goals as goal

pub returns-in-Some : goal.returns-in-Some
returns-in-Some g c = rw c.in-Some.is c.run.ensures

pub returns-in-None : goal.returns-in-None
returns-in-None g c = rw c.in-None.is c.run-in-None.ensures
