use Rattle.cvss_vector.proofs.vector.Cvss.tenths_as.Goals as goal

pub returns-in-CvssV40-clause-value : goal.returns-in-CvssV40-clause-value
returns-in-CvssV40-clause-value c = rw c.in-CvssV40.is c.tenths_v4.ensures.value
