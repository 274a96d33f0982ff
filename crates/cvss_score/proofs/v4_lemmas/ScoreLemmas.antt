-- The number of a score in 504000ths of a point, and its rounding.
use Rattle.std.proofs.lemmas.Int.{ints}
use Rattle.std.proofs.Math.Nat.{mul-pos}
use Rattle.std.proofs.Common.{◌≡◌, ℕ, ◌-◌, ◌*◌, ◌/◌, ◌<◌, ◌≤◌, max, true, false, List, [], ◌∷◌, Option, Some, None, option_map, unwrap_or, refl, arith, rules, pos, subst, sym, lit<}
use Rattle.cvss_base.specs.Exact.{◌over◌, tenths, whole, ◌⊖◌, ◌≈◌}
use Rattle.cvss_base.specs.Rounding.{IsRoundedV4}
use Rattle.cvss_base.proofs.ExactLemmas.{difference_equal, equal_refl, equal_trans}
use Rattle.cvss_score.specs.v4.Classes.{macro_vector}
use Rattle.cvss_score.specs.v4.Gap.{Group, groups, next_lower}
use Rattle.cvss_score.specs.v4.Scores.{has_impact, mean, number, proportions}
use Rattle.cvss_score.specs.v4.Values.{listed_value, table_value, IsListed}
use Rattle.cvss_score.specs.v4.private.Shares.{taken, counted}
use Rattle.cvss_score.specs.declared.v4.scoring.effective.Effective.{Effective}
use Rattle.cvss_score.proofs.v4_lemmas.GroupLemmas.{groups_sound}
use Rattle.cvss_score.proofs.v4_lemmas.MeanLemmas.{IsSound, AreSound, all_taken, all_counted, mean_is, total_is}
use Rattle.cvss_score.proofs.v4_lemmas.RoundedLemmas.{mean_bound}
use Rattle.cvss_score.proofs.v4_lemmas.ShareLemmas.{part_bound}
use Rattle.cvss_score.proofs.v4_lemmas.TableLemmas.{Falls}

-- what is taken of a gap is no more than the gap to 1
part_at_most : (value distance depth : ℕ) (next : Option ℕ) → distance < depth → depth * (840 / depth) ≡ 840
    → ((lower : ℕ) → next ≡ Some lower → Falls value lower)
    → unwrap_or (option_map (λ lower. (value - lower) * distance * (840 / depth)) next) 0
    ≤ 840 * (value - 1) * unwrap_or (option_map (λ _. 1) next) 0
part_at_most value distance depth None below divides falls = omega arith
part_at_most value distance depth (Some lower) below divides falls =
    omega (arith, part_bound value lower distance depth (falls lower refl).from_one below divides)

taken_at_most : (value : ℕ) (group : Group) → IsSound value group → taken value group ≤ 840 * (value - 1) * counted group
taken_at_most value group sound =
    rw sound.is_distance (part_at_most value sound.distance group.depth (next_lower group) sound.below sound.divides sound.falls)

all_at_most : (value : ℕ) (groups : List Group) → AreSound value groups
    → all_taken value groups ≤ 840 * (value - 1) * all_counted groups
all_at_most value [] are_sound = omega arith
all_at_most value (group ∷ rest) are_sound =
    omega (arith, taken_at_most value group are_sound.0, all_at_most value rest are_sound.1)

counted_once : (next : Option ℕ) → unwrap_or (option_map (λ _. 1) next) 0 ≤ 1
counted_once None = omega arith
counted_once (Some lower) = omega arith

pub few_counted : (v : Effective) → all_counted (groups v) ≤ 5
few_counted v = omega (arith, counted_once)

-- the mean of what the groups take, in 504000ths of a point
abbrev pub mean_count : Effective → ℕ
mean_count v = all_taken (table_value v) (groups v) * (60 / max (all_counted (groups v)) 1)

pub mean_of : (v : Effective) → (mean (proportions v) ≈ mean_count v over 504000) × (0 < (mean (proportions v)).bottom)
mean_of v =
    let value = table_value v in
    mean_is (proportions v) (all_taken value (groups v)) (all_counted (groups v)) (few_counted v)
    (total_is value (groups v) (groups_sound v))

value_is : (v : Effective) (value : ℕ) → IsListed (listed_value (macro_vector v)) value → table_value v ≡ value
value_is v value listed = rw listed.is_value refl

-- it leaves at least 0.1 of the value
pub mean_left : (v : Effective) (value : ℕ) → IsListed (listed_value (macro_vector v)) value → mean_count v ≤ 50400 * (value - 1)
mean_left v value listed =
    let own = table_value v in
    subst (λ n. mean_count v ≤ 50400 * (n - 1)) (value_is v value listed)
    (mean_bound (own - 1) (all_taken own (groups v)) (all_counted (groups v)) (few_counted v)
    (all_at_most own (groups v) (groups_sound v)))

-- what is found of what the groups take is the mean
pub mean_found : (v : Effective) (value taken counted : ℕ) → IsListed (listed_value (macro_vector v)) value
    → taken ≡ all_taken value (groups v) → counted ≡ all_counted (groups v) → taken * (60 / max counted 1) ≡ mean_count v
mean_found v value taken counted listed is_taken is_counted =
    let same = subst (λ n. taken ≡ all_taken n (groups v)) (sym (value_is v value listed)) is_taken in
    rw (same, is_counted) refl

-- the number of effective values with impact is the value less the mean
pub number_less_mean : (v : Effective) (value count : ℕ) → has_impact v ≡ true → IsListed (listed_value (macro_vector v)) value
    → count over 504000 ≈ mean (proportions v) → count ≤ 50400 * (value - 1)
    → (50400 * value - count) over 504000 ≈ number v
unfolding number
number_less_mean v value count with_impact listed is_mean bound =
    let less : tenths (pos value) ⊖ count over 504000 ≈ tenths (pos value) ⊖ mean (proportions v) =
    difference_equal (equal_refl (tenths (pos value))) is_mean in
    let whole : (50400 * value - count) over 504000 ≈ tenths (pos value) ⊖ count over 504000 =
    record { equal = omega (arith, ints, bound) } in
    let all = equal_trans (lit< tt) whole less in
    let own = sym (value_is v value listed) in
    rw with_impact (subst (λ n. (50400 * value - count) over 504000 ≈ tenths (pos n) ⊖ mean (proportions v)) own all)

-- without impact the number is 0
pub number_without_impact : (v : Effective) → has_impact v ≡ false → number v ≡ whole 0
unfolding number
number_without_impact v none = rw none refl

-- which rounds to 0
pub zero_is : (v : Effective) → has_impact v ≡ false → IsRoundedV4 (number v) (pos 0)
zero_is v none = rw (number_without_impact v none) (search rules)

-- the bottom of the number
pub some_bottom : (v : Effective) → has_impact v ≡ true → 0 < (number v).bottom
unfolding number
some_bottom v with_impact = rw with_impact (mul-pos (lit< tt) (mean_of v).1)
