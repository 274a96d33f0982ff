use Rattle.std.proofs.Math.Nat.{mul-le-mul}
use Rattle.cvss_score.proofs.v3.equations.temporal.Goals as goal

pub returns-clause-to_ten : goal.returns-clause-to_ten
returns-clause-to_ten c = mul-le-mul c.requires.tenths (mul-le-mul (mul-le-mul c.requires.e c.requires.rl) c.requires.rc)
