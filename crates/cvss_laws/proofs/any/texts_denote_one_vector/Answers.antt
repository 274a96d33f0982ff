use Rattle.cvss_vector.proofs.ReadLemmas.{one_vector}
use Rattle.cvss_laws.proofs.any.GivenBackLemmas.{own_text}
use Rattle.cvss_laws.proofs.any.texts_denote_one_vector.Goals as goal

pub returns-clause-own : goal.returns-clause-own
returns-clause-own c = own_text

pub returns-clause-one : goal.returns-clause-one
returns-clause-one c = one_vector
