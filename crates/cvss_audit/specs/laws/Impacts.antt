-- Impact below 0: v3.1 specification, section 7.1; v3.0 specification, section 8.1.
use Rattle.std.specs.Prelude.{neg_ℤ, pos}
use Rattle.cvss_base.specs.Exact.{Exact, ◌⊑◌, ◌⊏◌}
use Rattle.cvss_base.specs.Rounding.{half_above, half_below}

-- the tenth that is nearest to the number is -0.2
pub record IsNearMinusTwoTenths (x : Exact) : Type 0 where
  pub not_below : half_below (neg_ℤ (pos 2)) ⊑ x
  pub below : x ⊏ half_above (neg_ℤ (pos 2))
