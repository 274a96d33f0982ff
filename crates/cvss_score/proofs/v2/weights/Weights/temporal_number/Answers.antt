use Rattle.std.specs.Int.{w64}
use Rattle.std.proofs.Common.{arith}
use Rattle.std.proofs.lemmas.Int.{ints, to_z-of_z}
use Rattle.cvss_score.proofs.v2_lemmas.CountLemmas.{temporal_is, product_low, product_high}
use Rattle.cvss_score.proofs.v2.weights.Weights.temporal_number.Goals as goal

pub returns-clause-value : goal.returns-clause-value
returns-clause-value c =
    let w = c.args.self.now in
    temporal_is c.args.base w.e w.rl w.rc c.product.ensures.value
    (simp (to_z-of_z w64 c.args.base c.ranges.base) at c.weighted.ensures.value) (omega (arith, ints))

pub returns-clause-on_scale : goal.returns-clause-on_scale
returns-clause-on_scale c = λ on_scale.
    let is_weighted = simp (to_z-of_z w64 c.args.base c.ranges.base) at c.weighted.ensures.value in
    let low = product_low c.args.base 18 c.product.result on_scale.low in
    let high = product_high c.args.base 100 c.product.result on_scale.high in
    record { low = omega (arith, ints); high = omega (arith, ints) }
