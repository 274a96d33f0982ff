use Rattle.std.proofs.Common.{ap}
use Rattle.cvss_base.specs.Version.{canonical_text}
use Rattle.cvss_text.proofs.FrontLemmas.{same_text-once}
use Rattle.cvss_vector.specs.v4.Vector.{v4}
use Rattle.cvss_vector.specs.v4.private.VectorLaws.{v4_laws, v4_front_laws}
use Rattle.cvss_vector.proofs.v4.vector.Vector.same_text.Goals as goal

pub returns-clause-texts : goal.returns-clause-texts
returns-clause-texts c =
    let equal = c.vectors_are_their_values.ensures.equality c.args.self.now c.args.other.now in
    rw c.eq.ensures (λ yes. ap (canonical_text v4) (equal.0 yes), λ same. equal.1 (same_text-once v4 v4_laws v4_front_laws _ _ same))
