use Rattle.std.proofs.Common.{arith}
use Rattle.cvss_base.proofs.DigitLemmas.{index-now, tenth_reported}
use Rattle.cvss_base.proofs.tenths.text_of.Goals as goal

pub returns : goal.returns
returns c = rw (index-now _ c.args.tenths _) (tenth_reported c.args.tenths (omega (arith, c.requires)))
