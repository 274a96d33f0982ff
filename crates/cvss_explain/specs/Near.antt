-- Numbers of at most seven places that are near to exact ones.
use Rattle.std.specs.Prelude.{◌≡◌, ◌*◌, ◌^◌, ℤ, pos, ◌+ℤ◌, ◌*ℤ◌, ◌≤ℤ◌, ◌<ℤ◌, Bool, false}
use Rattle.cvss_base.specs.Exact.{Exact, ratio, ◌over◌, ◌⊕◌, ◌≈◌, ◌⊏◌}

-- so many ten millionths
abbrev pub ten_millionths : ℤ → Exact
ten_millionths count = ratio count 10_000_000

-- so many ten millionths are nearest to the count of 10^-24, of two the larger
pub record AreNearest (count reported : ℤ) : Type 0 where
  pub not_above : (reported *ℤ pos (10 ^ 17)) ≤ℤ (count +ℤ pos (5 * 10 ^ 16))
  pub not_below : (count +ℤ pos (5 * 10 ^ 16)) <ℤ (reported *ℤ pos (10 ^ 17) +ℤ pos (10 ^ 17))

-- so many ten millionths are less than a millionth away from the number
pub record IsWithinMillionth (x : Exact) (count : ℤ) : Type 0 where
  pub not_above : x ⊏ ten_millionths count ⊕ 1 over 1_000_000
  pub not_below : ten_millionths count ⊏ x ⊕ 1 over 1_000_000

-- and are it where it has no more than seven places
pub record IsNear (x : Exact) (count : ℤ) : Type 0 where
  pub within : IsWithinMillionth x count
  pub exact : (n : ℤ) → x ≈ ten_millionths n → count ≡ n

-- a number that has a power where the scope is changed is reported
pub record IsNearBy (changed : Bool) (x : Exact) (reported : ℤ) : Type 0 where
  pub within : IsWithinMillionth x reported
  pub near : changed ≡ false → IsNear x reported

-- the number that is made of tenths is reported, of which this holds
pub record IsNearOf (IsTenths : ℤ → Type 0) (number : ℤ → Exact) (reported : ℤ) : Type 0 where
  pub tenths : ℤ
  pub are_tenths : IsTenths tenths
  pub near : IsNear (number tenths) reported

-- such a number of tenths is reported in ten millionths
pub record IsTenth (IsNumber : ℤ → Type 0) (reported : ℤ) : Type 0 where
  pub tenths : ℤ
  pub is_number : IsNumber tenths
  pub is : reported ≡ tenths *ℤ pos 1_000_000
