use Rattle.std.proofs.Common.{ap}
use Rattle.cvss_base.specs.Version.{canonical_text}
use Rattle.cvss_text.proofs.FrontLemmas.{same_text-once}
use Rattle.cvss_vector.specs.v3.Vector.{v3}
use Rattle.cvss_vector.specs.v3.private.VectorLaws.{v3_laws, v3_front_laws}
use Rattle.cvss_vector.proofs.v3.vector.Vector.same_text.Goals as goal

pub returns-clause-texts : goal.returns-clause-texts
returns-clause-texts c =
    let equal = c.vectors_are_their_values.ensures.equality c.args.self.now c.args.other.now in
    rw c.eq.ensures (λ yes. ap (canonical_text v3) (equal.0 yes), λ same. equal.1 (same_text-once v3 v3_laws v3_front_laws _ _ same))
