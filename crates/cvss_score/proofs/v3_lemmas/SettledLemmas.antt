-- No rounding jumps near to the first number, for each value of the sub-scores, and the code's number lies near to it.
use Rattle.std.specs.Prelude.{unsigned_abs}
use Rattle.std.specs.List.{list_all, Contains}
use Rattle.std.proofs.Common.{◌≡◌, ℕ, zero, suc, ◌+◌, ◌-◌, ◌*◌, ◌/◌, ◌^◌, ◌<◌, ℤ, pos, negsuc, ◌-ℤ◌, Bool, true, false, ◌&&◌, ◌||◌, arith, refl, rules, lit<}
use Rattle.std.proofs.Math.Nat.{mul-pos}
use Rattle.std.proofs.lemmas.Int.{ints}
use Rattle.std.proofs.lemmas.Bool.{and_parts}
use Rattle.cvss_base.specs.Exact.{Exact, ratio, ◌over◌, whole, tenths, ◌⊕◌, ◌⊖◌, ◌⊑◌, ◌⊏◌}
use Rattle.cvss_base.proofs.ExactLemmas.{equal_from_at_most, at_most_trans, at_most_below, below_at_most}
use Rattle.cvss_base.proofs.TestLemmas.{is_below, is_at_most, below_if, at_most_if, passes}
use Rattle.cvss_score.specs.v3.Scores.{power, unchanged_impact, changed_impact, changed_modified_impact, impact_by, first_number, IsRounded}
use Rattle.cvss_score.specs.declared.v3.rules.Exponent.{Exponent}
use Rattle.cvss_score.specs.declared.v3.rules.Exponent.TheVariants.{Fifteen, Thirteen}
use Rattle.cvss_score.specs.v3.private.Near.{Approximates}
use Rattle.cvss_score.specs.v3.private.SubScores.{sub_scores, exploitabilities, IsSubScore}
use Rattle.cvss_score.specs.v3.private.Units.{changed_units, changed_modified_units, impact_units, total_units}
use Rattle.cvss_score.proofs.v3_lemmas.CapLemmas.{capped}
use Rattle.cvss_score.proofs.v3_lemmas.NearLemmas.{half}
use Rattle.cvss_score.proofs.v3_lemmas.RoundLemmas.{jump, between_jumps}

-- a millionth
abbrev pub error : Exact
error = 1 over 1_000_000

-- whether x is close to n, and n where that is asked for
unfoldable pub is_near : Bool → Exact → Exact → Bool
is_near changed x n =
    is_at_most x (n ⊕ half) && (is_at_most n (x ⊕ half) && (changed || (is_at_most x n && is_at_most n x)))

pub near_if : (changed : Bool) (x n : Exact) → is_near changed x n ≡ true → Approximates changed x n
unfolding is_near
near_if changed x n holds = record {
  close = record { not_above = at_most_if x (n ⊕ half) (search rules); not_below = at_most_if n (x ⊕ half) (search rules) };
  exact = λ is_unchanged. equal_from_at_most x n (at_most_if x n (search rules)) (at_most_if n x (search rules));
}

-- whether x lies within an error of n, at most 10
unfoldable is_within : Exact → Exact → Bool
is_within n x = is_at_most (n ⊖ error) x && is_at_most x (capped (n ⊕ error))

pub record IsWithin (n x : Exact) : Type 0 where
  pub low : n ⊖ error ⊑ x
  pub high : x ⊑ capped (n ⊕ error)

within_if : (n x : Exact) → is_within n x ≡ true → IsWithin n x
unfolding is_within
within_if n x holds = record { low = at_most_if (n ⊖ error) x (search rules); high = at_most_if x (capped (n ⊕ error)) (search rules) }

-- whether what lies within an error of n is rounded to r tenths by v3.0, and by v3.1 to s, and n lies a fifth decimal or
-- more above the tenth before s
unfoldable is_settled_at : Exact → ℕ → ℕ → Bool
is_settled_at n r s =
    is_at_most (whole 0) n && (is_at_most (tenths (pos s -ℤ pos 1) ⊕ 1 over 100_000) n
    && (is_at_most (whole 0) (n ⊖ error) && (is_below (tenths (pos r -ℤ pos 1)) (n ⊖ error)
    && (is_at_most (capped (n ⊕ error)) (tenths (pos r)) && (is_at_most (jump (pos s -ℤ pos 1)) (n ⊖ error)
    && is_below (capped (n ⊕ error)) (jump (pos s)))))))

pub record IsSettledAt (n : Exact) (r s : ℕ) : Type 0 where
  pub from_zero : whole 0 ⊑ n ⊖ error
  pub above_tenth : tenths (pos r -ℤ pos 1) ⊏ n ⊖ error
  pub to_tenth : capped (n ⊕ error) ⊑ tenths (pos r)
  pub from_jump : jump (pos s -ℤ pos 1) ⊑ n ⊖ error
  pub below_jump : capped (n ⊕ error) ⊏ jump (pos s)
  pub not_negative : whole 0 ⊑ n
  pub from_cut : tenths (pos s -ℤ pos 1) ⊕ 1 over 100_000 ⊑ n

settled_at : (n : Exact) (r s : ℕ) → is_settled_at n r s ≡ true → IsSettledAt n r s
unfolding is_settled_at
settled_at n r s settled =
    let least = and_parts _ _ settled in
    let cut = and_parts _ _ least.1 in
    let zero = and_parts _ _ cut.1 in
    let above = and_parts _ _ zero.1 in
    let tenth = and_parts _ _ above.1 in
    let jumps = and_parts _ _ tenth.1 in
    record {
      from_zero = at_most_if (whole 0) (n ⊖ error) zero.0;
      above_tenth = below_if (tenths (pos r -ℤ pos 1)) (n ⊖ error) above.0;
      to_tenth = at_most_if (capped (n ⊕ error)) (tenths (pos r)) tenth.0;
      from_jump = at_most_if (jump (pos s -ℤ pos 1)) (n ⊖ error) jumps.0;
      below_jump = below_if (capped (n ⊕ error)) (jump (pos s)) jumps.1;
      not_negative = at_most_if (whole 0) n least.0;
      from_cut = at_most_if _ n cut.0;
    }

-- the least tenth that is not below n
unfoldable pub tenth_above : Exact → ℕ
tenth_above n = (10 * unsigned_abs n.top + n.bottom - 1) / n.bottom

-- and that on the scale of the jumps
unfoldable pub jump_above : Exact → ℕ
jump_above n = (1_000_000 * unsigned_abs n.top + 99_995 * n.bottom) / (100_000 * n.bottom)

-- what lies within an error of n has one rounding, and x lies so and is close
pub record IsSettled (changed : Bool) (n x : Exact) : Type 0 where
  pub at : IsSettledAt n (tenth_above n) (jump_above n)
  pub itself : IsWithin n n
  pub within : IsWithin n x
  pub near : Approximates changed x n

unfoldable is_settled : Bool → Exact → Exact → Bool
is_settled changed n x =
    is_settled_at n (tenth_above n) (jump_above n) && (is_within n n && (is_within n x && is_near changed x n))

settled_if : (changed : Bool) (n x : Exact) → is_settled changed n x ≡ true → IsSettled changed n x
unfolding is_settled
settled_if changed n x settled = record {
  at = settled_at n (tenth_above n) (jump_above n) (search rules);
  itself = within_if n n (search rules);
  within = within_if n x (search rules);
  near = near_if changed x n (search rules);
}

-- the tenths to which a settled number is rounded by a minor version
abbrev pub settled_tenths : ℕ → Exact → ℤ
settled_tenths zero n = pos (tenth_above n)
settled_tenths (suc minor) n = pos (jump_above n)

pub settled_rounding : (minor : ℕ) (n : Exact) (top : ℤ) (q : ℕ) → IsSettledAt n (tenth_above n) (jump_above n) → 0 < n.bottom → 0 < q
    → IsWithin n (ratio top q) → IsRounded minor (ratio top q) (settled_tenths minor n)
settled_rounding zero n top q at some some_q within = record {
  not_below = at_most_trans (ratio top q) (capped (n ⊕ error)) (tenths (pos (tenth_above n))) (mul-pos (mul-pos some (lit< tt)) (lit< tt)) within.high at.to_tenth;
  least = below_at_most (tenths (pos (tenth_above n) -ℤ pos 1)) (n ⊖ error) (ratio top q) some_q at.above_tenth within.low;
}
settled_rounding (suc minor) n (pos t) q at some some_q within =
    let s = jump_above n in
    between_jumps t q s some_q
    (at_most_trans (jump (pos s -ℤ pos 1)) (n ⊖ error) (t over q) (mul-pos some (lit< tt)) at.from_jump within.low)
    (at_most_below (t over q) (capped (n ⊕ error)) (jump (pos s)) some_q within.high at.below_jump)
settled_rounding (suc minor) n (negsuc t) q at some some_q within =
    let order = at_most_trans (whole 0) (n ⊖ error) (ratio (negsuc t) q) (mul-pos some (lit< tt)) at.from_zero within.low in
    absurd (omega (arith, ints, order.at_most))

-- whether that holds with each exploitability, and the impact is close to the exact one
unfoldable settle : Bool → Exact → ℕ → Bool
settle changed impact units =
    is_near changed (units over (10 ^ 11)) impact && list_all (λ e.
    is_settled changed (first_number changed impact (e over (10 ^ 10))) (total_units changed units e over (10 ^ 13)))
    (exploitabilities changed)

-- what the test says
pub record Settles (changed : Bool) (impact : Exact) (units : ℕ) : Type 0 where
  pub near : Approximates changed (units over (10 ^ 11)) impact
  pub number : (e : ℕ) → Contains (exploitabilities changed) e
      → IsSettled changed (first_number changed impact (e over (10 ^ 10))) (total_units changed units e over (10 ^ 13))

settles_if : (changed : Bool) (impact : Exact) (units : ℕ) → settle changed impact units ≡ true → Settles changed impact units
unfolding settle
settles_if changed impact units holds = record {
  near = near_if changed (units over (10 ^ 11)) impact (search rules);
  number = λ e listed. settled_if changed _ _ (passes (λ e.
      is_settled changed (first_number changed impact (e over (10 ^ 10))) (total_units changed units e over (10 ^ 13)))
      (exploitabilities changed) e (search rules) listed);
}

unchanged_settle : list_all (λ s. settle false (unchanged_impact (s over 1_000_000)) (642_000 * s)) sub_scores ≡ true
unfolding is_near is_within is_settled_at tenth_above jump_above is_settled settle
unchanged_settle = refl

changed_settle : list_all (λ s. settle true (changed_impact (s over 1_000_000)) (changed_units s)) sub_scores ≡ true
unfolding is_near is_within is_settled_at tenth_above jump_above is_settled settle power changed_impact changed_units
changed_settle = refl

changed_modified_settle : list_all (λ s. settle true (changed_modified_impact (s over 1_000_000)) (changed_modified_units s)) sub_scores ≡ true
unfolding is_near is_within is_settled_at tenth_above jump_above is_settled settle power changed_modified_impact changed_modified_units
changed_modified_settle = refl

pub settles : (exponent : Exponent) (changed : Bool) (s : ℕ) → IsSubScore s
    → Settles changed (impact_by exponent changed (s over 1_000_000)) (impact_units exponent changed s)
settles exponent false s sub_score =
    settles_if false _ _ (passes (λ s. settle false (unchanged_impact (s over 1_000_000)) (642_000 * s)) sub_scores s unchanged_settle sub_score.listed)
settles Fifteen true s sub_score =
    settles_if true _ _ (passes (λ s. settle true (changed_impact (s over 1_000_000)) (changed_units s)) sub_scores s changed_settle sub_score.listed)
settles Thirteen true s sub_score =
    settles_if true _ _ (passes (λ s. settle true (changed_modified_impact (s over 1_000_000)) (changed_modified_units s)) sub_scores s changed_modified_settle sub_score.listed)
