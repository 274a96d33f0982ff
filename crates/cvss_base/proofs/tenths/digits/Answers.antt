use Rattle.std.proofs.Common.{arith}
use Rattle.cvss_base.proofs.DigitLemmas.{index-now, digit_reported}
use Rattle.cvss_base.proofs.tenths.digits.Goals as goal

pub returns : goal.returns
returns c = rw (index-now _ c.args.number _) (digit_reported c.args.number (omega (arith, c.requires)))
