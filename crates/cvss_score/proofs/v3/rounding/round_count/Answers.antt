use Rattle.std.proofs.Common.{arith}
use Rattle.std.specs.Int.{w128}
use Rattle.std.proofs.lemmas.Int.{ints, to_z-of_z}
use Rattle.cvss_score.proofs.v3_lemmas.RoundLemmas.{count_rounded, low_count_rounded}
use Rattle.cvss_score.proofs.v3.rounding.round_count.Goals as goal

pub returns-in-V31-clause-value : goal.returns-in-V31-clause-value
returns-in-V31-clause-value c =
    let low = simp (to_z-of_z w128 c.args.count c.ranges.count) at c.if-count-le0-2.true in
    rw c.in-V31.is (low_count_rounded c.args.count low)

pub returns-in-V31-2-clause-value : goal.returns-in-V31-2-clause-value
returns-in-V31-2-clause-value c =
    rw c.in-V31-2.is (count_rounded c.args.count _ (omega (arith, ints)) (omega (arith, ints)) (omega (arith, ints)))
