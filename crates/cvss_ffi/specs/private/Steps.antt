-- Words of the private code: texts that are written one after another.
use Rattle.std.specs.Prelude.{◌≡◌, ℕ, ◌+◌, ◌<◌, ◌≤◌, List, ◌++◌, drop, length, take}

-- where a text ends that begins at an offset is reported; it is there if it has room, and else the buffer is as it was
pub record IsWrittenAt (offset : ℕ) (text old now : List ℕ) (reported : ℕ) : Type 0 where
  pub reported_is : reported ≡ offset + length text
  pub there : reported ≤ length old → now ≡ take offset old ++ (text ++ drop reported old)
  pub left : length old < reported → now ≡ old
