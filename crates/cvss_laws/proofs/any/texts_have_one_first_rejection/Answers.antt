use Rattle.cvss_vector.specs.v2.Vector.{v2}
use Rattle.cvss_vector.specs.v2.private.VectorLaws.{v2_laws}
use Rattle.cvss_vector.specs.v3.Vector.{v3}
use Rattle.cvss_vector.specs.v3.private.VectorLaws.{v3_laws}
use Rattle.cvss_vector.specs.v4.Vector.{v4}
use Rattle.cvss_vector.specs.v4.private.VectorLaws.{v4_laws}
use Rattle.cvss_vector.proofs.ReadLemmas.{one_rejection as one_rejection_of_any}
use Rattle.cvss_text.proofs.RejectionLemmas.{one_rejection, one_rejection_after}
use Rattle.cvss_laws.proofs.any.texts_have_one_first_rejection.Goals as goal

pub returns : goal.returns
returns c = record {
  v2 = one_rejection v2 v2_laws;
  v3 = one_rejection_after v3 v3_laws;
  v4 = one_rejection_after v4 v4_laws;
  any = one_rejection_of_any;
}
