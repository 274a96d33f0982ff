-- The number is a whole number of 504000ths of a point; so there is one score, and the same with a millionth more.
use Rattle.std.proofs.Common.{◌≡◌, ◌↔◌, ℕ, ◌-◌, ◌*◌, ◌<◌, Bool, true, false, refl, arith, ℤ, lit<}
use Rattle.std.proofs.Math.Nat.{mul-pos}
use Rattle.std.proofs.lemmas.Int.{ints}
use Rattle.cvss_base.specs.Exact.{◌over◌, ◌⊕◌, ◌≈◌}
use Rattle.cvss_base.specs.Rounding.{IsRoundedV4}
use Rattle.cvss_base.proofs.ExactLemmas.{equal_refl, equal_sym, sum_equal}
use Rattle.cvss_base.proofs.RoundingLemmas.{v4-unique}
use Rattle.cvss_score.specs.v4.Scores.{has_impact, number, IsScore}
use Rattle.cvss_score.specs.v4.Values.{table_value}
use Rattle.cvss_score.specs.declared.v4.scoring.effective.Effective.{Effective}
use Rattle.cvss_score.proofs.v4_lemmas.GroupLemmas.{table_value_listed}
use Rattle.cvss_score.proofs.v4_lemmas.RoundedLemmas.{v4-equal}
use Rattle.cvss_score.proofs.v4_lemmas.ScoreLemmas.{mean_count, mean_of, mean_left, number_less_mean, number_without_impact, some_bottom}

-- the 504000ths of a point that effective values have, with impact and without
abbrev pub count_if : Bool → Effective → ℕ
count_if true v = 50400 * table_value v - mean_count v
count_if false v = 0

abbrev pub count_of : Effective → ℕ
count_of v = count_if (has_impact v) v

pub by_impact : (v : Effective) (b : Bool) → has_impact v ≡ b → (number v ≈ count_if b v over 504000) × (0 < (number v).bottom)
by_impact v true some =
    let listed = table_value_listed v in
    let mean = equal_sym (mean_of v).0 in
    let number = number_less_mean v (table_value v) (mean_count v) some listed mean (mean_left v (table_value v) listed) in
    (equal_sym number, some_bottom v some)
by_impact v false none =
    let zero_number = number_without_impact v none in
    (rw zero_number (record { equal = refl }), rw zero_number (lit< tt))

-- the number is a whole number of 504000ths
pub in_504000ths : (v : Effective) → (number v ≈ count_of v over 504000) × (0 < (number v).bottom)
in_504000ths v = by_impact v (has_impact v) refl

pub one_score : (v : Effective) (r s : ℤ) → IsScore v r → IsScore v s → r ≡ s
one_score v r s is_r is_s =
    let some = (in_504000ths v).1 in
    v4-unique (number v) (number v) r s some some (equal_refl (number v)) is_r is_s

-- a millionth does not reach the next 504000th
lifted_up : (n : ℕ) (r : ℤ) → IsRoundedV4 (n over 504000) r → IsRoundedV4 (n over 504000 ⊕ 1 over 1_000_000) r
lifted_up n r is_r = record {
  from_half_below = record { at_most = omega (arith, ints, is_r.from_half_below) };
  below_half_above = record { below = omega (arith, ints, is_r.below_half_above) };
}

lifted_down : (n : ℕ) (r : ℤ) → IsRoundedV4 (n over 504000 ⊕ 1 over 1_000_000) r → IsRoundedV4 (n over 504000) r
lifted_down n r is_r = record {
  from_half_below = record { at_most = omega (arith, ints, is_r.from_half_below) };
  below_half_above = record { below = omega (arith, ints, is_r.below_half_above) };
}

pub lifted_score : (v : Effective) (r : ℤ) → (IsScore v r ↔ IsRoundedV4 (number v ⊕ 1 over 1_000_000) r)
lifted_score v r =
    let lift = 1 over 1_000_000 in
    let found = in_504000ths v in
    let n = count_of v over 504000 in
    let lifted = sum_equal found.0 (equal_refl lift) in
    let some_lifted = mul-pos found.1 (lit< tt) in (
      λ is_r. v4-equal (n ⊕ lift) (number v ⊕ lift) r (lit< tt) some_lifted (equal_sym lifted)
          (lifted_up (count_of v) r (v4-equal (number v) n r found.1 (lit< tt) found.0 is_r)),
      λ is_r. v4-equal n (number v) r (lit< tt) found.1 (equal_sym found.0)
          (lifted_down (count_of v) r (v4-equal (number v ⊕ lift) (n ⊕ lift) r some_lifted (lit< tt) lifted is_r)),
    )
