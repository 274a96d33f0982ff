use Rattle.std.proofs.Common.{refl}
use lib.Ieee.{of_int, of_bits}
use Rattle.cvss_audit.proofs.expected.scores.minus_two_tenths.Goals as goal

pub returns : goal.returns
unfolding of_int of_bits
returns c = refl
