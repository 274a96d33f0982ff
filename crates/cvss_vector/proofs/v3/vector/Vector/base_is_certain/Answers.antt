use Rattle.cvss_vector.specs.v3.VectorWeights.{weights_of}
use Rattle.cvss_vector.proofs.v3.TableLemmas.{weights_listed}
use Rattle.cvss_vector.proofs.v3.vector.Vector.base_is_certain.Goals as goal

pub returns-clause-certain : goal.returns-clause-certain
returns-clause-certain c = λ is_certain.
    let v = c.args.self.now in
    c.is_certain.ensures.base is_certain v.minor_version (weights_of v) (weights_listed v)
