use Rattle.std.specs.Int.{w64}
use Rattle.std.proofs.Common.{arith, lit<, refl}
use Rattle.std.proofs.lemmas.Int.{ints, to_z-of_z}
use Rattle.cvss_base.proofs.ExactLemmas.{equal_trans}
use Rattle.cvss_base.proofs.RoundingLemmas.{v2-equal}
use Rattle.cvss_score.proofs.v2.weights.Weights.environmental.Goals as goal

pub returns : goal.returns
returns c =
    let temporal = c.adjusted_temporal in
    let number = simp (to_z-of_z w64 temporal.result (record { sfits = temporal.type_inv })) at c.environmental_number-number.ensures in
    simp (to_z-of_z w64 c.round_tenths.result (record { sfits = c.round_tenths.type_inv })) (record {
      value = record {
        adjusted_temporal = temporal.result;
        is_temporal = temporal.ensures.value;
        is_rounded = v2-equal (lit< tt) (lit< tt) (equal_trans (lit< tt) (record { equal = omega (arith, ints) }) number.value) refl c.round_tenths.ensures.value;
      };
      on_scale = c.round_tenths.ensures.on_scale (record { low = omega (arith, ints, number.on_scale.low); high = omega (arith, ints, number.on_scale.high) });
    })
