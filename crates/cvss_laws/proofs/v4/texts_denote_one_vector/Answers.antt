use Rattle.cvss_text.proofs.CanonicalLemmas.{canonical_text-denotes}
use Rattle.cvss_text.proofs.FrontLemmas.{denoted_once_after}
use Rattle.cvss_vector.specs.v4.Vector.{v4}
use Rattle.cvss_vector.specs.v4.private.VectorLaws.{v4_laws, v4_front_laws}
use Rattle.cvss_laws.proofs.v4.texts_denote_one_vector.Goals as goal

pub returns : goal.returns
returns c = record {
  own = canonical_text-denotes v4 v4_laws;
  one = denoted_once_after v4 v4_laws v4_front_laws;
}
