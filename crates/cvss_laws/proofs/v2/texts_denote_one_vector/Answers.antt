use Rattle.std.proofs.Common.{refl}
use Rattle.cvss_text.proofs.CanonicalLemmas.{canonical_text-denotes, denoted_once}
use Rattle.cvss_vector.specs.v2.Vector.{v2}
use Rattle.cvss_vector.specs.v2.private.VectorLaws.{v2_laws}
use Rattle.cvss_laws.proofs.v2.texts_denote_one_vector.Goals as goal

pub returns : goal.returns
returns c = record {
  own = canonical_text-denotes v2 v2_laws;
  one = λ text left right. denoted_once v2 v2_laws left right text refl;
}
