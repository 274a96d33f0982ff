use Rattle.cvss_base.proofs.RoundingLemmas.{v2-unique, v30-unique, v31-unique, v4-unique}
use Rattle.cvss_laws.proofs.number.EvenLemmas.{nearest_even-unique}
use Rattle.cvss_laws.proofs.number.roundings_are_unique.Goals as goal

pub returns : goal.returns
returns c = record {
  v2 = v2-unique;
  v30 = v30-unique;
  v31 = v31-unique;
  v4 = v4-unique;
  printing = nearest_even-unique;
}
