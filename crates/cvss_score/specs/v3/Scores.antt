-- The equations of the v3.0 specification, section 8, and of the v3.1 specification, section 7: base (8.1; 7.1),
-- temporal (8.2; 7.2) and environmental (8.3; 7.3).
use Rattle.std.specs.Prelude.{ℕ, zero, suc, ℤ, pos, Bool, true, false, int_lt, if◌then◌else◌}
use Rattle.cvss_base.specs.Exact.{Exact, ◌over◌, whole, tenths, ◌⊕◌, ◌⊖◌, ◌⊗◌, smaller}
use Rattle.cvss_base.specs.Rounding.{IsRoundedV30, IsRoundedV31}
use Rattle.cvss_base.specs.Tenths.{IsInTenths}
use Rattle.cvss_score.specs.declared.v3.rules.Exponent.{Exponent}
use Rattle.cvss_score.specs.declared.v3.rules.Exponent.TheVariants.{Fifteen, Thirteen}
use Rattle.cvss_score.specs.declared.v3.rules.Rules.{Rules}
use Rattle.cvss_score.specs.declared.v3.rules.Rules.TheVariants.{V30, V31}
use Rattle.cvss_score.specs.declared.v3.weights.Weights.{Weights}

-- minor version 0 has the rules of v3.0, any other those of v3.1
abbrev pub rules_of : ℕ → Rules
rules_of zero = V30
rules_of (suc minor) = V31

-- a weight of so many hundredths
abbrev pub hundredths : ℕ → Exact
hundredths n = n over 100

-- 1 less a weight
abbrev pub rest : Exact → Exact
rest weight = whole 1 ⊖ weight

-- x to the power of n
unfoldable pub power : Exact → ℕ → Exact
power x zero = whole 1
power x (suc n) = x ⊗ power x n

-- 1 - [(1 - Confidentiality) × (1 - Integrity) × (1 - Availability)]
abbrev pub sub_score_of : Exact → Exact → Exact → Exact
sub_score_of c i a = rest (rest c ⊗ rest i ⊗ rest a)

-- ISS (in v3.0 ISCBase), of the impacts
abbrev pub iss : Weights → Exact
iss w = sub_score_of (hundredths w.c) (hundredths w.i) (hundredths w.a)

-- MISS (in v3.0 ISCModified) = Minimum (1 - [(1 - CR × MC) × (1 - IR × MI) × (1 - AR × MA)], 0.915)
abbrev pub miss : Weights → Exact
miss w =
    smaller
    (sub_score_of (hundredths w.cr ⊗ hundredths w.mc) (hundredths w.ir ⊗ hundredths w.mi)
    (hundredths w.ar ⊗ hundredths w.ma))
    (915 over 1000)

-- 6.42 × ISS
abbrev pub unchanged_impact : Exact → Exact
unchanged_impact iss = 642 over 100 ⊗ iss

-- 7.52 × (ISS - 0.029) - 3.25 × (ISS - 0.02)^15
unfoldable pub changed_impact : Exact → Exact
changed_impact iss = 752 over 100 ⊗ (iss ⊖ 29 over 1000) ⊖ 325 over 100 ⊗ power (iss ⊖ 2 over 100) 15

-- 7.52 × (MISS - 0.029) - 3.25 × (MISS × 0.9731 - 0.02)^13
unfoldable pub changed_modified_impact : Exact → Exact
changed_modified_impact miss =
    752 over 100 ⊗ (miss ⊖ 29 over 1000) ⊖ 325 over 100 ⊗ power (miss ⊗ 9731 over 10_000 ⊖ 2 over 100) 13

-- the exponent in Modified Impact by the minor version: 15 in v3.0 and 13 in v3.1
abbrev pub modified_exponent : ℕ → Exponent
modified_exponent zero = Fifteen
modified_exponent (suc minor) = Thirteen

-- an impact, by the exponent that it has where the scope is changed, and whether it is
abbrev pub impact_by : Exponent → Bool → Exact → Exact
impact_by exponent false iss = unchanged_impact iss
impact_by Fifteen true iss = changed_impact iss
impact_by Thirteen true iss = changed_modified_impact iss

-- Impact
abbrev pub impact : Weights → Exact
impact w = impact_by Fifteen w.changed (iss w)

-- Modified Impact
abbrev pub modified_impact : ℕ → Weights → Exact
modified_impact minor w = impact_by (modified_exponent minor) w.modified_changed (miss w)

-- 8.22 × AttackVector × AttackComplexity × PrivilegesRequired × UserInteraction
abbrev pub exploitability_of : ℕ → ℕ → ℕ → ℕ → Exact
exploitability_of av ac pr ui = 822 over 100 ⊗ hundredths av ⊗ hundredths ac ⊗ hundredths pr ⊗ hundredths ui

-- Exploitability
abbrev pub exploitability : Weights → Exact
exploitability w = exploitability_of w.av w.ac w.pr w.ui

-- Modified Exploitability
abbrev pub modified_exploitability : Weights → Exact
modified_exploitability w = exploitability_of w.mav w.mac w.mpr w.mui

-- Impact + Exploitability, with the scope changed 1.08 × (Impact + Exploitability)
abbrev pub total_of : Bool → Exact → Exact → Exact
total_of false impact exploitability = impact ⊕ exploitability
total_of true impact exploitability = 108 over 100 ⊗ (impact ⊕ exploitability)

-- 0 if Impact is not above 0, else the smaller of the total and 10: what a score is the rounding of
abbrev pub first_number : Bool → Exact → Exact → Exact
first_number changed impact exploitability =
    if int_lt (pos 0) impact.top then smaller (total_of changed impact exploitability) (whole 10) else whole 0

-- what the base score is the rounding of
abbrev pub base_number : Weights → Exact
base_number w = first_number w.changed (impact w) (exploitability w)

-- what the environmental score is first the rounding of
abbrev pub environmental_number : ℕ → Weights → Exact
environmental_number minor w =
    first_number w.modified_changed (modified_impact minor w) (modified_exploitability w)

-- r tenths × E × RL × RC
abbrev pub temporal_number : ℤ → Weights → Exact
temporal_number r w = tenths r ⊗ hundredths w.e ⊗ hundredths w.rl ⊗ hundredths w.rc

-- r tenths are x rounded up: v3.0 specification, 8.1; v3.1 specification, Appendix A
abbrev pub IsRoundedBy : Rules → Exact → ℤ → Type 0
IsRoundedBy V30 x r = IsRoundedV30 x r
IsRoundedBy V31 x r = IsRoundedV31 x r

-- and so by the minor version
abbrev pub IsRounded : ℕ → Exact → ℤ → Type 0
IsRounded minor x r = IsRoundedBy (rules_of minor) x r

-- r tenths are the BaseScore
abbrev pub IsBase : ℕ → Weights → ℤ → Type 0
IsBase minor w r = IsRounded minor (base_number w) r

-- r tenths are the TemporalScore
pub record IsTemporal (minor : ℕ) (w : Weights) (r : ℤ) : Type 0 where
  pub base : ℤ
  pub is_base : IsBase minor w base
  pub is_rounded : IsRounded minor (temporal_number base w) r

-- r tenths are the EnvironmentalScore, which is rounded twice
pub record IsEnvironmental (minor : ℕ) (w : Weights) (r : ℤ) : Type 0 where
  pub first : ℤ
  pub is_first : IsRounded minor (environmental_number minor w) first
  pub is_rounded : IsRounded minor (temporal_number first w) r

-- the count of 10^-24 is the base score
abbrev pub IsBaseScore : ℕ → Weights → ℤ → Type 0
IsBaseScore minor w count = IsInTenths (IsBase minor w) count

-- the count of 10^-24 is the temporal score
abbrev pub IsTemporalScore : ℕ → Weights → ℤ → Type 0
IsTemporalScore minor w count = IsInTenths (IsTemporal minor w) count

-- the count of 10^-24 is the environmental score
abbrev pub IsEnvironmentalScore : ℕ → Weights → ℤ → Type 0
IsEnvironmentalScore minor w count = IsInTenths (IsEnvironmental minor w) count
