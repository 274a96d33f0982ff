use Rattle.std.specs.Int.{w64}
use Rattle.std.proofs.Common.{◌≡◌, pos, ◌*ℤ◌, arith}
use Rattle.std.proofs.lemmas.Int.{ints, to_z-of_z, to_z_pos}
use mir.Val.{to_z, of_z}
use Rattle.cvss_score.proofs.v2_lemmas.CountLemmas.{product_low, product_high}
use Rattle.cvss_score.proofs.v2.equations.weighted.Goals as goal

pub returns : goal.returns
returns c =
    let number = c.args.number in
    let weights = c.args.weights in
    let low = product_low number 10_000_000 weights c.requires.low in
    let high = product_high number 10_000_000 weights c.requires.high in
    let is_product : to_z w64 (of_z w64 (to_z w64 (of_z w64 number) *ℤ to_z w64 weights)) ≡ number *ℤ pos weights =
    rw (to_z-of_z w64 number c.ranges.number, to_z_pos w64 weights (omega arith)) (to_z-of_z w64 (number *ℤ pos weights) (omega (arith, ints, low, high))) in
    record { value = is_product; low = rw is_product (omega (arith, ints, low)); high = rw is_product (omega (arith, ints, high)) }
