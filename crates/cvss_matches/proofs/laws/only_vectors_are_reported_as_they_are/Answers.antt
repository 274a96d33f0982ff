use Rattle.cvss_matches.proofs.AloneLemmas.{answered_alone}
use Rattle.cvss_matches.proofs.laws.only_vectors_are_reported_as_they_are.Goals as goal

pub returns : goal.returns
returns c = λ scoring allow_incomplete assumed prefix number line answer accepted answers.
    answered_alone prefix scoring allow_incomplete assumed number line answer (c.accepted_texts_are_matches.ensures.alone line accepted) accepted answers
