-- Rounding to a whole number r of tenths: CVSS v2 guide, 3.2; v3.0 specification, 8.1; v3.1 specification,
-- Appendix A; v4.0 specification, 8.2.
use Rattle.std.specs.Prelude.{◌≡◌, ℤ, pos, ◌+ℤ◌, ◌-ℤ◌}
use Rattle.cvss_base.specs.Exact.{Exact, ratio, ◌over◌, whole, tenths, ◌⊕◌, ◌⊖◌, ◌⊗◌, ◌⊑◌, ◌⊏◌}

-- r - 0.05
abbrev pub half_below : ℤ → Exact
half_below r = tenths r ⊖ 5 over 100

-- r + 0.05
abbrev pub half_above : ℤ → Exact
half_above r = tenths r ⊕ 5 over 100

-- no tenth is nearer to x than r
pub record IsNearest (x : Exact) (r : ℤ) : Type 0 where
  pub from_half_below : half_below r ⊑ x
  pub to_half_above : x ⊑ half_above r

-- r is nearest to x, and of two equally near the one farther from zero
pub record IsNearestAway (x : Exact) (r : ℤ) : Type 0 where
  pub nearest : IsNearest x r
  pub away_upward : whole 0 ⊑ x → x ⊏ half_above r
  pub away_downward : x ⊏ whole 0 → half_below r ⊏ x

-- v2: the nearest tenth to x + 10^-6
pub record IsRoundedV2 (x : Exact) (r : ℤ) : Type 0 where
  pub lifted : IsNearestAway (x ⊕ 1 over 1_000_000) r

-- v3.0: Round up, r is the least tenth that is not below x
pub record IsRoundedV30 (x : Exact) (r : ℤ) : Type 0 where
  pub not_below : x ⊑ tenths r
  pub least : tenths (r -ℤ pos 1) ⊏ x

-- n is the greatest whole number that is not above x
pub record IsFloor (x : Exact) (n : ℤ) : Type 0 where
  pub not_above : ratio n 1 ⊑ x
  pub greatest : x ⊏ ratio (n +ℤ pos 1) 1

-- r is the least tenth that is not below the fifth decimal nearest to x
pub record IsRoundedUp (x : Exact) (r : ℤ) : Type 0 where
  pub fifth_decimals : ℤ
  pub nearest : IsFloor (x ⊗ whole 100_000 ⊕ 1 over 2) fifth_decimals
  pub rounded : IsRoundedV30 (ratio fifth_decimals 100_000) r

-- v3.1: Roundup of Appendix A, which is for numbers that are not negative, and 0 for the others
pub record IsRoundedV31 (x : Exact) (r : ℤ) : Type 0 where
  pub negative : x ⊏ whole 0 → r ≡ pos 0
  pub not_negative : whole 0 ⊑ x → IsRoundedUp x r

-- v4: r is the tenth nearest to x, half up
pub record IsRoundedV4 (x : Exact) (r : ℤ) : Type 0 where
  pub from_half_below : half_below r ⊑ x
  pub below_half_above : x ⊏ half_above r
