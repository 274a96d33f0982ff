use Rattle.std.proofs.Common.{refl}
use Rattle.cvss_subcommands.proofs.help.help_of.Goals as goal

pub returns-in-None-clause-start : goal.returns-in-None-clause-start
returns-in-None-clause-start c = rw c.in-None.is refl
