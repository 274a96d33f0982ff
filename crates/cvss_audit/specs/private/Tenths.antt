-- The nearest tenths of a count of 10^-24.
use Rattle.std.specs.Prelude.{◌≡◌, ℕ, ◌⊎◌, ◌+◌, ◌*◌, ◌^◌, ℤ, pos, ◌+ℤ◌, ◌≤ℤ◌, ◌<ℤ◌}

-- of the tenths from 0 to 25.5, r is the nearest to the count, half up
pub record AreNearest (count : ℤ) (r : ℕ) : Type 0 where
  pub not_above : (r ≡ 0) ⊎ (pos (r * 10 ^ 23) ≤ℤ (count +ℤ pos (5 * 10 ^ 22)))
  pub not_below : (r ≡ 255) ⊎ ((count +ℤ pos (5 * 10 ^ 22)) <ℤ pos (r * 10 ^ 23 + 10 ^ 23))
