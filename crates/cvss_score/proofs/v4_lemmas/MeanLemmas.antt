-- The mean of what the groups take, as a whole number of 504000ths of a point.
use Rattle.std.proofs.Common.{◌≡◌, ℕ, zero, suc, ◌+◌, ◌-◌, ◌*◌, ◌/◌, ◌<◌, ◌≤◌, max, List, [], ◌∷◌, length, Option, Some, None, option_map, unwrap_or, unsigned_abs, refl, arith, pos, ◌-ℤ◌, ap, sym, subst, lit<, zero-add}
use Rattle.std.specs.List.{cons_option, filter_map}
use Rattle.std.proofs.Math.Nat.{mul-pos}
use Rattle.std.proofs.lemmas.Int.{ints}
use Rattle.cvss_base.specs.Exact.{Exact, ratio, ◌over◌, tenths, ◌⊕◌, ◌⊗◌, ◌≈◌}
use Rattle.cvss_base.proofs.ExactLemmas.{equal_refl, equal_trans, sum_equal, product_equal}
use Rattle.cvss_score.specs.v4.Gap.{Group, next_lower}
use Rattle.cvss_score.specs.v4.Scores.{proportion, total, mean}
use Rattle.cvss_score.specs.v4.private.Shares.{taken, counted}
use Rattle.cvss_score.proofs.v4_lemmas.TableLemmas.{Falls}

-- gap * distance / depth in 8400ths of a point
part_is : (gap distance depth share : ℕ) → depth * share ≡ 840
    → ratio (pos gap) 10 ⊗ ratio (pos distance) depth ≈ (gap * distance * share) over 8400
part_is gap distance depth share divides =
    let product = ap (λ n. gap * distance * 10 * n) divides in
    record { equal = omega (arith, ints, product) }

-- a group below a value: its distance is below its depth, which divides 840, and its next lower value is from 1
-- to the value
pub record IsSound (value : ℕ) (group : Group) : Type 0 where
  pub distance : ℕ
  pub is_distance : group.distance ≡ pos distance
  pub below : distance < group.depth
  pub divides : group.depth * (840 / group.depth) ≡ 840
  pub falls : (lower : ℕ) → next_lower group ≡ Some lower → Falls value lower

-- so many numbers have this sum in 8400ths of a point
pub record IsTotal (xs : List Exact) (sum count : ℕ) : Type 0 where
  pub is_sum : total xs ≈ sum over 8400
  pub is_count : length xs ≡ count
  pub some : 0 < (total xs).bottom

-- one more number, where it is there
one_more : (next : Option ℕ) (number : ℕ → Exact) (part : ℕ → ℕ) (xs : List Exact) (sum count : ℕ)
    → ((lower : ℕ) → next ≡ Some lower → (number lower ≈ part lower over 8400) × (0 < (number lower).bottom))
    → IsTotal xs sum count
    → IsTotal (cons_option (option_map number next) xs) (unwrap_or (option_map part next) 0 + sum)
    (unwrap_or (option_map (λ _. 1) next) 0 + count)
one_more None number part xs sum count is_part is_total =
    subst (λ (n : ℕ). IsTotal xs n (0 + count)) (sym (zero-add sum))
    (subst (λ (n : ℕ). IsTotal xs sum n) (sym (zero-add count)) is_total)
one_more (Some lower) number part xs sum count is_part is_total =
    let first = is_part lower refl in
    let summed = sum_equal first.0 is_total.is_sum in
    let parts : (part lower over 8400) ⊕ (sum over 8400) ≈ (part lower + sum) over 8400 =
    record { equal = omega (arith, ints) } in
    record {
      is_sum = equal_trans (lit< tt) summed parts;
      is_count = omega (arith, is_total.is_count);
      some = mul-pos first.1 is_total.some;
    }

-- each group is sound below a value
abbrev pub AreSound : ℕ → List Group → Type 0
AreSound value [] = Unit {0}
AreSound value (group ∷ rest) = IsSound value group × AreSound value rest

-- the sum of what the groups take
abbrev pub all_taken : ℕ → List Group → ℕ
all_taken value [] = 0
all_taken value (group ∷ rest) = taken value group + all_taken value rest

-- how many of them count
abbrev pub all_counted : List Group → ℕ
all_counted [] = 0
all_counted (group ∷ rest) = counted group + all_counted rest

-- the part of a gap to a next lower value
pub part_of : (value : ℕ) (group : Group) → IsSound value group → (lower : ℕ) → next_lower group ≡ Some lower
    → tenths (pos value -ℤ pos lower) ⊗ ratio group.distance group.depth
    ≈ ((value - lower) * unsigned_abs group.distance * (840 / group.depth)) over 8400
part_of value group sound lower is_next =
    let gap : pos value -ℤ pos lower ≡ pos (value - lower) = omega (arith, ints, (sound.falls lower is_next).to_value) in
    rw (gap, sound.is_distance) (part_is (value - lower) sound.distance group.depth (840 / group.depth) sound.divides)

pub total_is : (value : ℕ) (groups : List Group) → AreSound value groups
    → IsTotal (filter_map (proportion value) groups) (all_taken value groups) (all_counted groups)
total_is value [] are_sound = record { is_sum = record { equal = refl }; is_count = refl; some = lit< tt }
total_is value (group ∷ rest) are_sound =
    let depth = group.depth in
    one_more (next_lower group) (λ lower. tenths (pos value -ℤ pos lower) ⊗ ratio group.distance depth)
    (λ lower. (value - lower) * unsigned_abs group.distance * (840 / depth)) (filter_map (proportion value) rest)
    (all_taken value rest) (all_counted rest)
    (λ lower is_next. (part_of value group are_sound.0 lower is_next, mul-pos (lit< tt) (omega (arith, are_sound.0.below))))
    (total_is value rest are_sound.1)

-- a sum divided by so many, in 504000ths
divided : (sum count : ℕ) → 0 < count → count ≤ 5
    → (sum over 8400) ⊗ 1 over count ≈ (sum * (60 / max count 1)) over 504000
divided sum zero some few = absurd (omega arith)
divided sum (suc zero) some few = record { equal = omega (arith, ints) }
divided sum (suc (suc zero)) some few = record { equal = omega (arith, ints) }
divided sum (suc (suc (suc zero))) some few = record { equal = omega (arith, ints) }
divided sum (suc (suc (suc (suc zero)))) some few = record { equal = omega (arith, ints) }
divided sum (suc (suc (suc (suc (suc zero))))) some few = record { equal = omega (arith, ints) }
divided sum (suc (suc (suc (suc (suc (suc rest)))))) some few = absurd (omega arith)

-- the mean in 504000ths
pub mean_is : (xs : List Exact) (sum count : ℕ) → count ≤ 5 → IsTotal xs sum count
    → (mean xs ≈ (sum * (60 / max count 1)) over 504000) × (0 < (mean xs).bottom)
mean_is [] sum count few is_total =
    let none : sum ≡ 0 = omega (arith, ints, is_total.is_sum) in
    (rw none (record { equal = omega (arith, ints) }), lit< tt)
mean_is (x ∷ rest) sum count few is_total =
    let all = x ∷ rest in
    let some : 0 < count = omega (arith, is_total.is_count) in
    let shares : total all ⊗ 1 over length all ≈ (sum over 8400) ⊗ 1 over length all =
    product_equal is_total.is_sum (equal_refl (1 over length all)) in
    let counted_shares : total all ⊗ 1 over length all ≈ (sum over 8400) ⊗ 1 over count =
    subst (λ (n : ℕ). total all ⊗ 1 over length all ≈ (sum over 8400) ⊗ 1 over n) is_total.is_count shares in
    (equal_trans (omega arith) counted_shares (divided sum count some few), mul-pos is_total.some (omega arith))
