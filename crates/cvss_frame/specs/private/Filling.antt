-- How the first bytes of an input are read until it is known whether they are a mark.
use Rattle.std.specs.Prelude.{◌≡◌, ◌⊎◌, ℕ, ◌==◌, ◌&&◌, ◌||◌, Bool, true, false, List, [], ◌∷◌, Option}
use Rattle.std.specs.Io.KnownBytes.{IsAtEnd}
use Rattle.cvss_frame.specs.declared.watching.Start.{Start}
use Rattle.cvss_frame.specs.declared.watching.Start.TheVariants.{Unread, One, Two, Begun, Utf16}

-- bytes that may be a part of a mark, of which more is to come
abbrev pub is_open : List ℕ → Bool
is_open [] = true
is_open (a ∷ []) = (a == 0xef) || ((a == 0xfe) || (a == 0xff))
is_open (a ∷ b ∷ []) = (a == 0xef) && (b == 0xbb)
is_open (a ∷ b ∷ c ∷ bytes) = false

-- more is not read to know of a mark
abbrev pub has_begun : Start → Bool
has_begun Unread = false
has_begun (One a) = false
has_begun (Two a b) = false
has_begun Begun = true
has_begun Utf16 = true

-- nothing that follows makes a mark of these bytes
abbrev pub IsDecided : List ℕ → Option (List ℕ) → Type 0
IsDecided bytes left = (is_open bytes ≡ false) ⊎ IsAtEnd left
