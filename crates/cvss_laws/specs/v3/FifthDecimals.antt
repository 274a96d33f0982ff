-- Rounding a number that is cut to five decimals: v3.1 specification, Appendix A, whose Roundup takes the nearest fifth
-- decimal, where calculators are known that cut.
use Rattle.std.specs.Prelude.{ℤ}
use Rattle.cvss_base.specs.Exact.{Exact, ratio, whole, ◌⊗◌}
use Rattle.cvss_base.specs.Rounding.{IsFloor, IsRoundedV30, IsRoundedV31}

-- r is the least tenth that is not below x, cut to five decimals
pub record IsRoundedCut (x : Exact) (r : ℤ) : Type 0 where
  pub fifth_decimals : ℤ
  pub cut : IsFloor (x ⊗ whole 100_000) fifth_decimals
  pub rounded : IsRoundedV30 (ratio fifth_decimals 100_000) r

-- cut or not, x has the same rounding
abbrev pub IsSameWhenCut : Exact → Type 0
IsSameWhenCut x = (r : ℤ) → IsRoundedCut x r → IsRoundedV31 x r
