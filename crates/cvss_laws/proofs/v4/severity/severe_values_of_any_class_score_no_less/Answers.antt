use Rattle.cvss_laws.proofs.v4.SeverityLemmas.{severe_score}
use Rattle.cvss_laws.proofs.v4.severity.severe_values_of_any_class_score_no_less.Goals as goal

pub returns : goal.returns
returns c = severe_score
