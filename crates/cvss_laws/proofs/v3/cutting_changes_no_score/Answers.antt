use Rattle.cvss_laws.proofs.v3.CutLemmas.{base_same_when_cut, first_same_when_cut, product_same_when_cut}
use Rattle.cvss_laws.proofs.v3.cutting_changes_no_score.Goals as goal

pub returns : goal.returns
returns c = record { base = base_same_when_cut; environmental = first_same_when_cut; product = product_same_when_cut }
