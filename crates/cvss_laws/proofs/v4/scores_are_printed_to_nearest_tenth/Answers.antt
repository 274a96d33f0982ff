use Rattle.cvss_laws.proofs.v4.PrintedLemmas.{printed-nearest}
use Rattle.cvss_laws.proofs.v4.scores_are_printed_to_nearest_tenth.Goals as goal

pub returns : goal.returns
returns c = printed-nearest
