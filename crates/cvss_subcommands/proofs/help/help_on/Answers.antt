use Rattle.std.proofs.Common.{refl}
use Rattle.cvss_subcommands.proofs.help.help_on.Goals as goal

pub returns-in-Find-clause-start : goal.returns-in-Find-clause-start
returns-in-Find-clause-start c = rw c.in-Find.is refl

pub returns-in-Triage-clause-start : goal.returns-in-Triage-clause-start
returns-in-Triage-clause-start c = rw c.in-Triage.is refl
