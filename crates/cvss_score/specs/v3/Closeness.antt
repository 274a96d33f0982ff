-- Counts that stand for numbers with more decimals than they have: v3.1 specification, 7.1 and 7.3, whose impact with the
-- scope changed has a 15th or 13th power.
use Rattle.cvss_base.specs.Exact.{Exact, ◌over◌, ◌⊕◌, ◌⊑◌}

-- x is at most half a millionth from n
pub record IsCloseTo (n x : Exact) : Type 0 where
  pub not_above : x ⊑ n ⊕ 5 over 10_000_000
  pub not_below : n ⊑ x ⊕ 5 over 10_000_000
