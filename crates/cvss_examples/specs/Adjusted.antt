-- The temporal score with the adjusted impact: CVSS v2 guide, section 3.2.3.
use Rattle.std.specs.Prelude.{ℤ}
use Rattle.cvss.specs.Exact.{of_count, ◌≈◌}
use Rattle.cvss.specs.ScoresV2.{adjusted_impact, IsTemporal}
use Rattle.cvss.specs.Tenths.{IsInTenths}
use Rattle.cvss.specs.WeightsTypeV2.{Weights}

-- the count is the temporal score, where the impact is a count that is exactly the adjusted impact
pub record IsAdjustedTemporal (weights : Weights) (score : ℤ) : Type 0 where
  pub impact : ℤ
  pub adjusted : of_count impact ≈ adjusted_impact weights
  pub is : IsInTenths (IsTemporal weights (of_count impact)) score
