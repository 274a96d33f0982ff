use Rattle.std.specs.Int.{w64, w128}
use Rattle.std.proofs.Common.{◌≡◌, pos, arith}
use Rattle.std.proofs.lemmas.Int.{ints, to_z-of_z}
use Rattle.cvss_score.proofs.v2_lemmas.ScoreLemmas.{base_rounded, none_rounded}
use Rattle.cvss_score.proofs.v2.weights.Weights.base_of.Goals as goal

pub returns : goal.returns
returns c =
    let tenths = c.round_tenths.ensures in
    let number = c.base_number.ensures in
    simp (to_z-of_z w64 c.round_tenths.result (record { sfits = c.round_tenths.type_inv })) (record {
      value = λ exact some is_impact. base_rounded c.args.self.now some is_impact c.exploitability.ensures.value
          (λ zero. c.if-impact-eq0.false (omega (arith, ints, zero))) (omega (arith, ints, number.value)) tenths.value;
      low = tenths.low;
      high = tenths.high;
      on_scale = λ is_impact.
          let own = simp (to_z-of_z w128 c.args.impact c.ranges.impact) at number.on_scale in
          tenths.on_scale (simp (to_z-of_z w128 c.base_number.result (record { sfits = c.base_number.type_inv })) (own is_impact));
    })

pub returns-then-impact-eq0-clause-value : goal.returns-then-impact-eq0-clause-value
returns-then-impact-eq0-clause-value c = λ exact some is_impact.
    let none : c.args.impact ≡ pos 0 = omega (arith, ints) in
    none_rounded c.args.self.now some (rw none at is_impact)
