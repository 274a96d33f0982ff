-- Scores of vectors by both specifications, and roundings, so that a wrong equation does not check.
use Rattle.std.proofs.Common.{◌≡◌, ℕ, ◌^◌, ◌<◌, ℤ, pos, ◌-ℤ◌, true, false, refl, lit<}
use Rattle.cvss_base.specs.Exact.{Exact, ◌over◌, tenths, ◌≈◌}
use Rattle.cvss_base.specs.Rounding.{IsRoundedV30, IsRoundedV31}
use Rattle.cvss_score.specs.v3.Scores.{power, changed_impact, changed_modified_impact, base_number, environmental_number, miss, IsRounded, IsBase, IsEnvironmental}
use Rattle.cvss_score.specs.declared.v3.weights.Weights.{Weights}
use Rattle.cvss_score.proofs.v3_lemmas.RoundLemmas.{jump, between_jumps}
use Rattle.cvss_base.proofs.TestLemmas.{is_below, is_at_most, below_if, at_most_if}

pub v30_if : (x : Exact) (r : ℤ) → is_at_most x (tenths r) ≡ true → is_below (tenths (r -ℤ pos 1)) x ≡ true → IsRoundedV30 x r
v30_if x r at_most below = record { not_below = at_most_if x (tenths r) at_most; least = below_if (tenths (r -ℤ pos 1)) x below }

pub v31_if : (t q r : ℕ) → 0 < q → is_at_most (jump (pos r -ℤ pos 1)) (t over q) ≡ true → is_below (t over q) (jump (pos r)) ≡ true
    → IsRoundedV31 (t over q) (pos r)
v31_if t q r some low high = between_jumps t q r some (at_most_if _ (t over q) low) (below_if (t over q) _ high)

-- AV:N/AC:L/PR:N/UI:N/S:U/C:H/I:H/A:H
abbrev worst_unchanged : Weights
worst_unchanged = record {
  av = 85;
  ac = 77;
  pr = 85;
  ui = 85;
  changed = false;
  c = 56;
  i = 56;
  a = 56;
  e = 100;
  rl = 100;
  rc = 100;
  cr = 100;
  ir = 100;
  ar = 100;
  mav = 85;
  mac = 77;
  mpr = 85;
  mui = 85;
  modified_changed = false;
  mc = 56;
  mi = 56;
  ma = 56;
}

pub worst_unchanged_base : (base_number worst_unchanged ≈ 9_760_161_495 over (10 ^ 9)) × IsBase 1 worst_unchanged (pos 98)
worst_unchanged_base = (record { equal = refl }, v31_if _ _ 98 (lit< tt) refl refl)

-- AV:N/AC:L/PR:N/UI:N/S:U/C:H/I:H/A:H/CR:H/IR:H/AR:H, where MISS is 0.915
abbrev high_requirements : Weights
high_requirements = record worst_unchanged { cr = 150; ir = 150; ar = 150 }

pub high_requirements_environmental : (miss high_requirements ≈ 915 over 1000)
    × (environmental_number 1 high_requirements ≈ 9_761_342_775 over (10 ^ 9)) × IsEnvironmental 1 high_requirements (pos 98)
high_requirements_environmental = (
  record { equal = refl },
  record { equal = refl },
  record { first = pos 98; is_first = v31_if _ _ 98 (lit< tt) refl refl; is_rounded = v31_if _ _ 98 (lit< tt) refl refl },
)

-- AV:N/AC:L/PR:N/UI:R/S:C/C:H/I:H/A:H, whose environmental score is greater in v3.1
abbrev worst_changed : Weights
worst_changed = record worst_unchanged { ui = 62; changed = true; mui = 62; modified_changed = true }

pub worst_changed_environmental : IsEnvironmental 0 worst_changed (pos 96) × IsEnvironmental 1 worst_changed (pos 97)
unfolding changed_impact changed_modified_impact power
worst_changed_environmental = (
  record { first = pos 96; is_first = v30_if _ (pos 96) refl refl; is_rounded = v30_if _ (pos 96) refl refl },
  record { first = pos 97; is_first = v31_if _ _ 97 (lit< tt) refl refl; is_rounded = v31_if _ _ 97 (lit< tt) refl refl },
)

-- AV:N/AC:L/PR:L/UI:N/S:C/C:H/I:H/A:H/MS:U, whose privileges weigh by each scope
abbrev scope_modified : Weights
scope_modified = record worst_unchanged { pr = 68; changed = true; mpr = 62 }

pub scope_modified_scores : IsBase 1 scope_modified (pos 99)
    × (environmental_number 1 scope_modified ≈ 870_837_345 over (10 ^ 8)) × IsEnvironmental 1 scope_modified (pos 88)
unfolding changed_impact power
scope_modified_scores = (
  v31_if _ _ 99 (lit< tt) refl refl,
  record { equal = refl },
  record { first = pos 88; is_first = v31_if _ _ 88 (lit< tt) refl refl; is_rounded = v31_if _ _ 88 (lit< tt) refl refl },
)

-- v3.1 specification, 7 and Appendix A: 4.02 and 4.00; and Roundup takes the nearest fifth decimal first
pub roundings : IsRounded 1 (402 over 100) (pos 41) × IsRounded 1 (400 over 100) (pos 40)
    × IsRounded 1 (4_000_004 over 1_000_000) (pos 40) × IsRounded 1 (4_000_005 over 1_000_000) (pos 41)
roundings = (
  v31_if _ _ 41 (lit< tt) refl refl,
  v31_if _ _ 40 (lit< tt) refl refl,
  v31_if _ _ 40 (lit< tt) refl refl,
  v31_if _ _ 41 (lit< tt) refl refl,
)
