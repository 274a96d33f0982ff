-- The first byte of some in a text.
use Rattle.std.specs.Prelude.{◌≡◌, ◌≢◌, ◌⊎◌, ℕ, ◌<◌, ◌≤◌, List, length, slice_index}

-- the index of the first byte that is one of two, or the length where there is none
pub record IsFirstOf (one other : ℕ) (bytes : List ℕ) (index : ℕ) : Type 0 where
  pub within : index ≤ length bytes
  pub without_one : (k : ℕ) → k < index → slice_index bytes k ≢ one
  pub without_other : (k : ℕ) → k < index → slice_index bytes k ≢ other
  pub found : index < length bytes → (slice_index bytes index ≡ one) ⊎ (slice_index bytes index ≡ other)
