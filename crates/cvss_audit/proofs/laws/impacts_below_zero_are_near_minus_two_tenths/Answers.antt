use Rattle.std.proofs.Common.{◌≡◌, ◌==◌, arith}
use Rattle.std.proofs.lemmas.Bool.{and_parts, eqb-true}
use Rattle.std.proofs.lemmas.Int.{ints}
use Rattle.cvss_score.specs.v3.Scores.{changed_impact, power}
use Rattle.cvss_audit.proofs.laws.impacts_below_zero_are_near_minus_two_tenths.Goals as goal

pub returns : goal.returns
unfolding changed_impact power
returns c w below =
    let changed = and_parts w.changed _ below in
    let none = and_parts (w.c == 0) _ changed.1 in
    let more = and_parts (w.i == 0) (w.a == 0) none.1 in
    let c_is : w.c ≡ 0 = eqb-true w.c 0 none.0 in
    let i_is : w.i ≡ 0 = eqb-true w.i 0 more.0 in
    let a_is : w.a ≡ 0 = eqb-true w.a 0 more.1 in
    rw (changed.0, c_is, i_is, a_is) (record { not_below = record { at_most = omega (arith, ints) }; below = record { below = omega (arith, ints) } })
