-- The score lies between the value of the class and those of the next lower ones.
use Rattle.std.specs.List.{All}
use Rattle.std.proofs.Common.{◌≡◌, ℕ, zero, suc, ◌-◌, ◌*◌, ◌/◌, ◌<◌, ◌≤◌, Bool, true, false, List, [], ◌∷◌, Option, Some, None, IfSome, option_map, unwrap_or, refl, arith, ℤ, pos, ◌≤ℤ◌, lit<, mul-le-mul}
use Rattle.std.proofs.Math.Nat.{mul-le-mul_right}
use Rattle.std.proofs.lemmas.Int.{ints}
use Rattle.cvss_base.specs.Exact.{◌over◌, ◌⊑◌}
use Rattle.cvss_base.specs.Rounding.{IsRoundedV4}
use Rattle.cvss_base.proofs.ExactLemmas.{equal_at_most, equal_sym, at_most_trans}
use Rattle.cvss_base.proofs.RoundingLemmas.{v4-ordered}
use Rattle.cvss_score.specs.v4.Gap.{Group, groups, next_lower}
use Rattle.cvss_score.specs.v4.Scores.{has_impact, number, IsScore}
use Rattle.cvss_score.specs.v4.Values.{table_value}
use Rattle.cvss_score.specs.v4.private.Shares.{taken, counted}
use Rattle.cvss_score.specs.declared.v4.scoring.effective.Effective.{Effective}
use Rattle.cvss_score.proofs.v4_lemmas.GroupLemmas.{groups_sound}
use Rattle.cvss_score.proofs.v4_lemmas.MeanLemmas.{IsSound, AreSound, all_taken, all_counted}
use Rattle.cvss_score.proofs.v4_lemmas.RoundedLemmas.{mean_bound}
use Rattle.cvss_score.proofs.v4_lemmas.ScoreLawLemmas.{count_if, count_of, by_impact, in_504000ths}
use Rattle.cvss_score.proofs.v4_lemmas.ScoreLemmas.{few_counted}

-- what is taken of a gap to a value of a bound or more is at most the gap to the bound
part_to_bound : (value bound distance depth : ℕ) (next : Option ℕ) → distance < depth → depth * (840 / depth) ≡ 840
    → IfSome next (λ lower. bound ≤ lower)
    → unwrap_or (option_map (λ lower. (value - lower) * distance * (840 / depth)) next) 0
    ≤ 840 * (value - bound) * unwrap_or (option_map (λ _. 1) next) 0
part_to_bound value bound distance depth None below divides above = omega arith
part_to_bound value bound distance depth (Some lower) below divides above =
    let gap : value - lower ≤ value - bound = omega (arith, above) in
    let part : distance * (840 / depth) ≤ depth * (840 / depth) = mul-le-mul_right (840 / depth)
    (omega (arith, below)) in
    let to_whole : distance * (840 / depth) ≤ 840 = omega (arith, part, divides) in
    omega (arith, mul-le-mul gap to_whole)

taken_to_bound : (value bound : ℕ) (group : Group) → IsSound value group
    → IfSome (next_lower group) (λ lower. bound ≤ lower)
    → taken value group ≤ 840 * (value - bound) * counted group
taken_to_bound value bound group sound above =
    rw sound.is_distance (part_to_bound value bound sound.distance group.depth (next_lower group) sound.below
    sound.divides above)

all_to_bound : (value bound : ℕ) (groups : List Group) → AreSound value groups
    → All (λ group. IfSome (next_lower group) (λ lower. bound ≤ lower)) groups
    → all_taken value groups ≤ 840 * (value - bound) * all_counted groups
all_to_bound value bound [] are_sound above = omega arith
all_to_bound value bound (group ∷ rest) are_sound above =
    omega (
      arith,
      taken_to_bound value bound group are_sound.0 (above 0 group (omega arith)),
      all_to_bound value bound rest are_sound.1 (λ k d in_list. above (suc k) d (omega (arith, in_list))),
    )

tenths_rounded : (n : ℕ) → IsRoundedV4 (n over 10) (pos n)
tenths_rounded n =
    record {
      from_half_below = record { at_most = omega (arith, ints) };
      below_half_above = record
          { below = omega (arith, ints) };
    }

count_to_value : (v : Effective) (b : Bool) → count_if b v ≤ 50400 * table_value v
count_to_value v true = omega arith
count_to_value v false = omega arith

pub at_most_value : (v : Effective) (r : ℤ) → IsScore v r → r ≤ℤ pos (table_value v)
at_most_value v r is_r =
    let n = count_of v over 504000 in
    let value = table_value v over 10 in
    let order : n ⊑ value = record { at_most = omega (arith, ints, count_to_value v (has_impact v)) } in
    v4-ordered (number v) value r (pos (table_value v)) (in_504000ths v).1 (lit< tt)
    (at_most_trans (number v) n value (lit< tt) (equal_at_most (number v) n (in_504000ths v).0) order) is_r
    (tenths_rounded (table_value v))

pub from_lower : (v : Effective) (r : ℤ) → has_impact v ≡ true → IsScore v r → (bound : ℕ) → bound ≤ table_value v
    → All (λ group. IfSome (next_lower group) (λ lower. bound ≤ lower)) (groups v) → pos bound ≤ℤ r
from_lower v r with_impact is_r bound below above =
    let counted = by_impact v true with_impact in
    let n = count_if true v over 504000 in
    let value = table_value v in
    let taken = mean_bound (value - bound) (all_taken value (groups v)) (all_counted (groups v)) (few_counted v)
    (all_to_bound value bound (groups v) (groups_sound v) above) in
    let order : bound over 10 ⊑ n = record { at_most = omega (arith, ints, taken, below) } in
    v4-ordered (bound over 10) (number v) (pos bound) r (lit< tt) counted.1
    (at_most_trans (bound over 10) n (number v) (lit< tt) order (equal_at_most n (number v) (equal_sym counted.0)))
    (tenths_rounded bound) is_r
