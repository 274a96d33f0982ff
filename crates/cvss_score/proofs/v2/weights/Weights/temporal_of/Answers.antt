use Rattle.std.specs.Int.{w64}
use Rattle.std.proofs.Common.{arith, lit<, refl}
use Rattle.std.proofs.lemmas.Int.{ints, to_z-of_z}
use Rattle.cvss_base.proofs.ExactLemmas.{equal_trans}
use Rattle.cvss_base.proofs.RoundingLemmas.{v2-equal}
use Rattle.cvss_score.proofs.v2.weights.Weights.temporal_of.Goals as goal

pub returns : goal.returns
returns c =
    let tenths = c.round_tenths.ensures in
    let number = simp (to_z-of_z w64 c.args.base c.ranges.base) at c.temporal_number.ensures in
    simp (to_z-of_z w64 c.round_tenths.result (record { sfits = c.round_tenths.type_inv })) (record {
      value = λ impact is_base. record {
        base = c.args.base;
        is_base = is_base;
        is_rounded = v2-equal (lit< tt) (lit< tt) (equal_trans (lit< tt) (record { equal = omega (arith, ints) }) number.value) refl tenths.value;
      };
      low = tenths.low;
      high = tenths.high;
      on_scale = λ on_scale.
          let number_on_scale = number.on_scale on_scale in
          tenths.on_scale (record { low = omega (arith, ints, number_on_scale.low); high = omega (arith, ints, number_on_scale.high) });
    })
