-- That a rounding keeps the order of numbers and has one result, and the nearest even tenth.
use Rattle.std.specs.Prelude.{◌≡◌, ◌%◌, ◌<◌, ℤ, pos, neg_ℤ, int_lt, ◌≤ℤ◌, unsigned_abs, if◌then◌else◌}
use Rattle.cvss_base.specs.Exact.{Exact, ◌≈◌, ◌⊑◌}
use Rattle.cvss_base.specs.Rounding.{IsNearest, half_below, half_above}
use Rattle.cvss_base.specs.Tenths.{even_tenths}

-- an even number of tenths
abbrev pub IsEven : ℤ → Type 0
IsEven r = unsigned_abs r % 2 ≡ 0

-- printing: r is nearest to x, and of two equally near the even one
pub record IsNearestEven (x : Exact) (r : ℤ) : Type 0 where
  pub nearest : IsNearest x r
  pub even_above : x ≈ half_below r → IsEven r
  pub even_below : x ≈ half_above r → IsEven r

-- a greater number has no smaller rounding
abbrev pub RoundsInOrder : (Exact → ℤ → Type 0) → Type 0
RoundsInOrder IsRounded =
    (x y : Exact) (r s : ℤ) → 0 < x.bottom → 0 < y.bottom → x ⊑ y → IsRounded x r → IsRounded y s → r ≤ℤ s

-- equal numbers have at most one rounding
abbrev pub RoundsOneWay : (Exact → ℤ → Type 0) → Type 0
RoundsOneWay IsRounded =
    (x y : Exact) (r s : ℤ) → 0 < x.bottom → 0 < y.bottom → x ≈ y → IsRounded x r → IsRounded y s → r ≡ s

-- no two counts are this score
abbrev pub IsOneCount : (ℤ → Type 0) → Type 0
IsOneCount IsScore = (r s : ℤ) → IsScore r → IsScore s → r ≡ s

-- the tenths that are printed of a score of either sign
abbrev pub printed_tenths : ℤ → ℤ
printed_tenths value =
    if int_lt value (pos 0) then neg_ℤ (pos (even_tenths (unsigned_abs value)))
    else pos (even_tenths (unsigned_abs value))
