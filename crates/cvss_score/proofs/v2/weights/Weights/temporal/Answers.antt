use Rattle.std.specs.Int.{w64}
use Rattle.std.proofs.Common.{arith}
use Rattle.std.proofs.lemmas.Int.{ints, to_z-of_z}
use Rattle.cvss_score.specs.v2.Scores.{impact}
use Rattle.cvss_score.proofs.v2.weights.Weights.temporal.Goals as goal

pub returns : goal.returns
returns c =
    let base = c.base in
    let temporal = simp (to_z-of_z w64 base.result (record { sfits = base.type_inv })) at c.temporal_of.ensures in
    simp (to_z-of_z w64 c.temporal_of.result (record { sfits = c.temporal_of.type_inv })) (record {
      value = temporal.value (impact c.args.self.now) base.ensures.value;
      on_scale = temporal.on_scale base.ensures.on_scale;
    })

pub temporal_of-requires-clause-low : goal.temporal_of-requires-clause-low
temporal_of-requires-clause-low c = omega (arith, ints, c.base.ensures.on_scale.low)

pub temporal_of-requires-clause-high : goal.temporal_of-requires-clause-high
temporal_of-requires-clause-high c = omega (arith, ints, c.base.ensures.on_scale.high)
