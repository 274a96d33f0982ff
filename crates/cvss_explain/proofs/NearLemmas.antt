-- The nearest ten millionths are near.
use Rattle.std.proofs.Common.{◌≡◌, ◌^◌, ◌<◌, ℤ, pos, ◌*ℤ◌, arith, lit<}
use Rattle.std.proofs.lemmas.Int.{ints}
use Rattle.cvss_base.proofs.ExactLemmas.{at_most_below, below_at_most, equal_at_most, equal_sym, equal_trans, sum_at_most}
use Rattle.cvss_base.specs.Exact.{Exact, of_count, ◌over◌, ◌⊕◌, ◌≈◌}
use Rattle.cvss_explain.specs.Near.{AreNearest, IsNear, ten_millionths}

-- the ten millionths of the only count that is so many of them
settled : (c k m : ℤ) → AreNearest c k → of_count c ≈ ten_millionths m → k ≡ m
settled c k m nearest same = omega (arith, ints, nearest.not_above, nearest.not_below, same.equal)

-- those nearest to a count that equals a number are near to the number
pub near_equal : (n : Exact) (c k : ℤ) → 0 < n.bottom → of_count c ≈ n → AreNearest c k → IsNear n k
near_equal n c k some same nearest =
    let millionth = 1 over 1_000_000 in
    let count_at_most = equal_at_most (of_count c) n same in
    record {
      within = record {
        not_above = at_most_below n (of_count c) (ten_millionths k ⊕ millionth) some (equal_at_most n (of_count c) (equal_sym same))
            (record { below = omega (arith, ints, nearest.not_below) });
        not_below = below_at_most (ten_millionths k) (of_count c ⊕ millionth) (n ⊕ millionth) (omega arith)
            (record { below = omega (arith, ints, nearest.not_above) })
            (sum_at_most (of_count c) n millionth millionth count_at_most (record { at_most = omega (arith, ints) }));
      };
      exact = λ m is. settled c k m nearest (equal_trans some same is);
    }

-- ten millionths that are the number are near to it
pub near_itself : (n : Exact) (k : ℤ) → 0 < n.bottom → ten_millionths k ≈ n → IsNear n k
near_itself n k some same =
    near_equal n (k *ℤ pos (10 ^ 17)) k some (equal_trans (lit< tt) (record { equal = omega (arith, ints) }) same)
    (record { not_above = omega (arith, ints); not_below = omega (arith, ints) })
