use Rattle.cvss_text.proofs.CanonicalLemmas.{canonical_text-denotes}
use Rattle.cvss_text.proofs.FrontLemmas.{denoted_once_after}
use Rattle.cvss_vector.specs.v3.Vector.{v3}
use Rattle.cvss_vector.specs.v3.private.VectorLaws.{v3_laws, v3_front_laws}
use Rattle.cvss_laws.proofs.v3.texts_denote_one_vector.Goals as goal

pub returns : goal.returns
returns c = record {
  own = canonical_text-denotes v3 v3_laws;
  one = denoted_once_after v3 v3_laws v3_front_laws;
}
