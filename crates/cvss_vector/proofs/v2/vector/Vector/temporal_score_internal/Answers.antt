use Rattle.std.specs.Int.{w64}
use Rattle.std.proofs.Common.{arith, lit<}
use Rattle.std.proofs.lemmas.Int.{ints, to_z-of_z}
use Rattle.cvss_base.specs.Exact.{of_count}
use Rattle.cvss_vector.proofs.v2.vector.Vector.temporal_score_internal.Goals as goal

pub returns-clause-value : goal.returns-clause-value
returns-clause-value c =
    let impact = of_count c.args.impact in
    let base = c.base_of in
    let is_base = base.ensures.value impact (lit< tt) (record { equal = omega (arith, ints, c.value.ensures) }) in
    let temporal = simp (to_z-of_z w64 base.result (record { sfits = base.type_inv })) at c.temporal_of.ensures.value in
    record {
      number = c.temporal_of.result;
      is_number = rw c.weights-weights.ensures.value at (temporal impact is_base);
      is_count = simp (to_z-of_z w64 c.temporal_of.result (record { sfits = c.temporal_of.type_inv })) at c.of_tenths.ensures.value;
    }
