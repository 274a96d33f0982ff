-- What the laws of v4 scores speak of.
use Rattle.cvss_base.specs.Exact.{Exact, ◌over◌, whole, ◌⊑◌}

-- from 0.1 to 10
pub record IsFromTenthToTen (x : Exact) : Type 0 where
  pub from_tenth : 1 over 10 ⊑ x
  pub to_ten : x ⊑ whole 10
