use Rattle.std.proofs.Common.{refl, ap}
use Rattle.cvss_base.specs.Version.{canonical_text}
use Rattle.cvss_text.proofs.CanonicalLemmas.{canonical_text-same}
use Rattle.cvss_vector.specs.v2.Vector.{v2}
use Rattle.cvss_vector.specs.v2.private.VectorLaws.{v2_laws}
use Rattle.cvss_vector.proofs.v2.vector.Vector.same_text.Goals as goal

pub returns-clause-texts : goal.returns-clause-texts
returns-clause-texts c =
    let equal = c.vectors_are_their_values.ensures.equality c.args.self.now c.args.other.now in
    rw c.eq.ensures (λ yes. ap (canonical_text v2) (equal.0 yes), λ same. equal.1 (canonical_text-same v2 v2_laws _ _ refl same))
