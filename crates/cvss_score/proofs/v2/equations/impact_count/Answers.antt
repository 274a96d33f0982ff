use Rattle.std.proofs.Common.{arith}
use Rattle.std.proofs.lemmas.Int.{ints}
use Rattle.cvss_score.proofs.v2_lemmas.CountLemmas.{impact_is}
use Rattle.cvss_score.proofs.v2.equations.impact_count.Goals as goal

pub returns-clause-value : goal.returns-clause-value
returns-clause-value c = impact_is _ c.args.c c.args.i c.args.a c.requires.c c.requires.i c.requires.a (omega (arith, ints))
