use Rattle.std.specs.Int.{w64}
use Rattle.std.proofs.Common.{arith}
use Rattle.std.proofs.lemmas.Int.{ints, to_z-of_z}
use Rattle.cvss_score.proofs.v2_lemmas.CountLemmas.{environmental_is, weights_add, product_low, product_high}
use Rattle.cvss_score.proofs.v2.weights.Weights.environmental_number.Goals as goal

pub returns-clause-value : goal.returns-clause-value
returns-clause-value c =
    let w = c.args.self.now in
    environmental_is c.args.temporal w.cdp w.td (omega (arith, c.requires.bounded.cdp)) c.product.ensures.value c.product-damaged.ensures.value
    (simp (to_z-of_z w64 c.args.temporal c.ranges.temporal) at c.weighted-undamaged.ensures.value)
    (omega (arith, ints))

pub returns-clause-on_scale : goal.returns-clause-on_scale
returns-clause-on_scale c =
    let w = c.args.self.now in
    let is_weighted = simp (to_z-of_z w64 c.args.temporal c.ranges.temporal) at c.weighted-undamaged.ensures.value in
    let low = product_low c.args.temporal 18 c.product.result c.requires.temporal.low in
    let high = product_high c.args.temporal 100 c.product.result c.requires.temporal.high in
    let whole = weights_add w.cdp w.td (omega (arith, c.requires.bounded.cdp)) in
    record { low = omega (arith, ints); high = omega (arith, ints) }
