-- The equations of the CVSS v2 guide: base (3.2.1), temporal (3.2.2) and environmental (3.2.3).
use Rattle.std.specs.Prelude.{◌≡◌, ◌^◌, ℕ, zero, ℤ, pos, ◌*ℤ◌}
use Rattle.std.specs.Int.{int_max}
use Rattle.cvss_base.specs.Exact.{Exact, ◌over◌, whole, thousandths, tenths, ◌⊕◌, ◌⊖◌, ◌⊗◌, smaller}
use Rattle.cvss_base.specs.Rounding.{IsRoundedV2}
use Rattle.cvss_score.specs.declared.v2.weights.Weights.{Weights}

-- 1 less a weight
abbrev pub rest : Exact → Exact
rest weight = whole 1 ⊖ weight

-- 10.41 * (1 - (1 - C) * (1 - I) * (1 - A))
abbrev pub impact_of : Exact → Exact → Exact → Exact
impact_of c i a = 1041 over 100 ⊗ rest (rest c ⊗ rest i ⊗ rest a)

-- Impact
abbrev pub impact : Weights → Exact
impact w = impact_of (thousandths w.c) (thousandths w.i) (thousandths w.a)

-- AdjustedImpact = min(10, 10.41 * (1 - (1 - C * CR) * (1 - I * IR) * (1 - A * AR)))
abbrev pub adjusted_impact : Weights → Exact
adjusted_impact w =
    smaller (whole 10)
    (impact_of (thousandths w.c ⊗ thousandths w.cr) (thousandths w.i ⊗ thousandths w.ir)
    (thousandths w.a ⊗ thousandths w.ar))

-- Exploitability = 20 * AccessVector * AccessComplexity * Authentication
abbrev pub exploitability : Weights → Exact
exploitability w = whole 20 ⊗ thousandths w.av ⊗ thousandths w.ac ⊗ thousandths w.au

-- f in thousandths, by the top of the Impact: a fraction is 0 where its top is 0, since no bottom is
abbrev pub f_thousandths : ℤ → ℕ
f_thousandths (pos zero) = 0
f_thousandths _ = 1176

-- f(Impact) = 0 if Impact = 0, 1.176 otherwise
abbrev pub f : Exact → Exact
f impact = thousandths (f_thousandths impact.top)

-- ((0.6 * Impact) + (0.4 * Exploitability) - 1.5) * f(Impact)
abbrev pub base_number : Exact → Exact → Exact
base_number impact exploitability =
    (6 over 10 ⊗ impact ⊕ 4 over 10 ⊗ exploitability ⊖ 15 over 10) ⊗ f impact

-- BaseScore * Exploitability * RemediationLevel * ReportConfidence
abbrev pub temporal_number : Exact → Exact → Exact → Exact → Exact
temporal_number base e rl rc = base ⊗ e ⊗ rl ⊗ rc

-- (AdjustedTemporal + (10 - AdjustedTemporal) * CollateralDamagePotential) * TargetDistribution
abbrev pub environmental_number : Exact → Exact → Exact → Exact
environmental_number temporal cdp td = (temporal ⊕ (whole 10 ⊖ temporal) ⊗ cdp) ⊗ td

-- by a rounding, r tenths are the BaseScore with this impact in the place of Impact
abbrev pub IsBaseBy : (Exact → ℤ → Type 0) → Weights → Exact → ℤ → Type 0
IsBaseBy IsRounded w impact r = IsRounded (base_number impact (exploitability w)) r

-- by a rounding, r tenths are the TemporalScore with this impact in the place of Impact
pub record IsTemporalBy (IsRounded : Exact → ℤ → Type 0) (w : Weights) (impact : Exact) (r : ℤ) : Type 0 where
  pub base : ℤ
  pub is_base : IsBaseBy IsRounded w impact base
  pub is_rounded : IsRounded
      (temporal_number (tenths base) (thousandths w.e) (thousandths w.rl) (thousandths w.rc)) r

-- by a rounding, r tenths are the EnvironmentalScore, whose AdjustedTemporal is not raised to 0
pub record IsEnvironmentalBy (IsRounded : Exact → ℤ → Type 0) (w : Weights) (r : ℤ) : Type 0 where
  pub adjusted_temporal : ℤ
  pub is_temporal : IsTemporalBy IsRounded w (adjusted_impact w) adjusted_temporal
  pub is_rounded : IsRounded
      (environmental_number (tenths adjusted_temporal) (thousandths w.cdp) (thousandths w.td)) r

-- r tenths are the BaseScore with this impact in the place of Impact
abbrev pub IsBase : Weights → Exact → ℤ → Type 0
IsBase = IsBaseBy IsRoundedV2

-- r tenths are the TemporalScore with this impact in the place of Impact
abbrev pub IsTemporal : Weights → Exact → ℤ → Type 0
IsTemporal = IsTemporalBy IsRoundedV2

-- r tenths are the EnvironmentalScore, whose AdjustedTemporal is not raised to 0
abbrev pub IsEnvironmental : Weights → ℤ → Type 0
IsEnvironmental = IsEnvironmentalBy IsRoundedV2

-- the count of 10^-24 is that of such a number of tenths, raised to 0 where it is negative
pub record IsPublished (IsNumber : ℤ → Type 0) (count : ℤ) : Type 0 where
  pub number : ℤ
  pub is_number : IsNumber number
  pub is_count : count ≡ int_max (pos 0) number *ℤ pos (10 ^ 23)

-- by a rounding, the count is the published base score
abbrev pub IsBaseScoreBy : (Exact → ℤ → Type 0) → Weights → ℤ → Type 0
IsBaseScoreBy IsRounded w count = IsPublished (IsBaseBy IsRounded w (impact w)) count

-- by a rounding, the count is the published temporal score
abbrev pub IsTemporalScoreBy : (Exact → ℤ → Type 0) → Weights → ℤ → Type 0
IsTemporalScoreBy IsRounded w count = IsPublished (IsTemporalBy IsRounded w (impact w)) count

-- by a rounding, the count is the published environmental score
abbrev pub IsEnvironmentalScoreBy : (Exact → ℤ → Type 0) → Weights → ℤ → Type 0
IsEnvironmentalScoreBy IsRounded w count = IsPublished (IsEnvironmentalBy IsRounded w) count

-- the count is the published base score
abbrev pub IsBaseScore : Weights → ℤ → Type 0
IsBaseScore = IsBaseScoreBy IsRoundedV2

-- the count is the published temporal score
abbrev pub IsTemporalScore : Weights → ℤ → Type 0
IsTemporalScore = IsTemporalScoreBy IsRoundedV2

-- the count is the published environmental score
abbrev pub IsEnvironmentalScore : Weights → ℤ → Type 0
IsEnvironmentalScore = IsEnvironmentalScoreBy IsRoundedV2
