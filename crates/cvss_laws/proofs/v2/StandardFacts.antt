-- The first example of the CVSS v2 guide, 3.3.1, so that a wrong equation does not check, and one that is not in the guide.
use Rattle.std.proofs.Common.{pos, negsuc, refl, rules}
use Rattle.cvss_base.specs.Exact.{◌over◌, ◌≈◌}
use Rattle.cvss_base.specs.Rounding.{IsNearestAway}
use Rattle.cvss_score.specs.declared.v2.weights.Weights.{Weights}
use Rattle.cvss_score.specs.v2.Scores.{impact, exploitability, adjusted_impact, IsBase, IsTemporal, IsEnvironmental, IsEnvironmentalBy}

-- CVE-2002-0392: AV:N/AC:L/Au:N/C:N/I:N/A:C/E:F/RL:OF/RC:C/CDP:H/TD:H/CR:M/IR:M/AR:H
abbrev apache : Weights
apache = record {
  av = 1000;
  ac = 710;
  au = 704;
  c = 0;
  i = 0;
  a = 660;
  e = 950;
  rl = 870;
  rc = 1000;
  cdp = 500;
  td = 1000;
  cr = 1000;
  ir = 1000;
  ar = 1510;
}

-- the guide rounds these to 6.9, 10.0 and 10.0
pub sub_scores : (impact apache ≈ 68_706 over 10_000) × (exploitability apache ≈ 99_968 over 10_000)
    × (adjusted_impact apache ≈ 10 over 1)
sub_scores = (record { equal = refl }, record { equal = refl }, record { equal = refl })

pub base_score : IsBase apache (impact apache) (pos 78)
base_score = search rules

pub temporal_score : IsTemporal apache (impact apache) (pos 64)
temporal_score = record { base = pos 78; is_base = base_score; is_rounded = search rules }

-- the temporal score with the adjusted impact
pub adjusted_score : IsTemporal apache (adjusted_impact apache) (pos 83)
adjusted_score = record { base = pos 100; is_base = search rules; is_rounded = search rules }

pub environmental_score : IsEnvironmental apache (pos 92)
environmental_score = record { adjusted_temporal = pos 83; is_temporal = adjusted_score; is_rounded = search rules }

-- AV:L/AC:H/Au:M/C:P/I:N/A:N/TD:L/CR:L, whose environmental number is -0.05: 0 with 10^-6 added, and else -0.1
abbrev below_zero : Weights
below_zero = record apache { av = 395; ac = 350; au = 450; c = 275; a = 0; e = 1000; rl = 1000; cdp = 0; td = 250; cr = 500; ar = 1000 }

below_zero_temporal : IsTemporal below_zero (adjusted_impact below_zero) (negsuc 1)
below_zero_temporal = record { base = negsuc 1; is_base = search rules; is_rounded = search rules }

pub below_zero_scores : IsEnvironmental below_zero (pos 0) × IsEnvironmentalBy IsNearestAway below_zero (negsuc 0)
below_zero_scores = (
  record { adjusted_temporal = negsuc 1; is_temporal = below_zero_temporal; is_rounded = search rules },
  record {
    adjusted_temporal = negsuc 1;
    is_temporal = record { base = negsuc 1; is_base = search rules; is_rounded = search rules };
    is_rounded = search rules;
  },
)
