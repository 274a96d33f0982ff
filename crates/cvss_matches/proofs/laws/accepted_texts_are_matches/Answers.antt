use Rattle.cvss_matches.proofs.AcceptedLemmas.{accepted_whole}
use Rattle.cvss_matches.proofs.laws.accepted_texts_are_matches.Goals as goal

pub returns-clause-whole : goal.returns-clause-whole
returns-clause-whole c = accepted_whole
