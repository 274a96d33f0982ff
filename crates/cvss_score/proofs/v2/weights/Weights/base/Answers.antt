use Rattle.std.proofs.Common.{arith, lit<}
use Rattle.std.proofs.lemmas.Int.{ints}
use Rattle.cvss_base.proofs.ExactLemmas.{equal_trans}
use Rattle.cvss_base.proofs.RoundingLemmas.{v2-equal}
use Rattle.cvss_score.proofs.v2.weights.Weights.base.Goals as goal

pub returns-clause-value : goal.returns-clause-value
returns-clause-value c =
    v2-equal (lit< tt) (lit< tt) (equal_trans (lit< tt) (record { equal = omega (arith, ints) }) c.base_number.ensures.value)
    (omega (arith, ints)) c.rounded.ensures

pub rounded-requires-clause-low : goal.rounded-requires-clause-low
rounded-requires-clause-low c = omega (arith, ints, c.base_number.ensures.on_scale.low)

pub rounded-requires-clause-high : goal.rounded-requires-clause-high
rounded-requires-clause-high c = omega (arith, ints, c.base_number.ensures.on_scale.high)

pub returns-clause-on_scale : goal.returns-clause-on_scale
returns-clause-on_scale c =
    let near = c.rounded.ensures.lifted.nearest in
    record {
      low = omega (arith, ints, near.to_half_above.at_most, c.base_number.ensures.on_scale.low);
      high = omega (arith, ints, near.from_half_below.at_most, c.base_number.ensures.on_scale.high);
    }
