use Rattle.std.proofs.Common.{arith}
use Rattle.std.proofs.lemmas.Int.{ints}
use Rattle.cvss_vector.proofs.v2.vector.Vector.impact.Goals as goal

pub returns-clause-limit : goal.returns-clause-limit
returns-clause-limit c =
    let bound = c.impact.ensures.bound in
    record { from_lowest = omega (arith, ints, bound); to_highest = omega (arith, ints, bound) }
