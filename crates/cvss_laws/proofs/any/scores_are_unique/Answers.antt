use Rattle.cvss_vector.proofs.ReadLemmas.{score_once}
use Rattle.cvss_laws.proofs.any.scores_are_unique.Goals as goal

pub returns : goal.returns
returns c = score_once
