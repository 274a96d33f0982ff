use Rattle.cvss_audit.proofs.ReportingLemmas.{reported_vector}
use Rattle.cvss_audit.proofs.laws.records_report_vectors.Goals as goal

pub returns : goal.returns
returns c = reported_vector c.texts_denote_one_vector.ensures.own c.texts_denote_one_vector.ensures.one
