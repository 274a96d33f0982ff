use Rattle.cvss_laws.proofs.v4.RangeLemmas.{from_tenth_to_ten}
use Rattle.cvss_laws.proofs.v4.numbers_lie_from_a_tenth_to_ten.Goals as goal

pub returns : goal.returns
returns c = from_tenth_to_ten
