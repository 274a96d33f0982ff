-- The beginning of a file, until its first line that is not blank has ended.
use Rattle.std.specs.Prelude.{◌≡◌, ◌≢◌, ℕ, All, Bool, true, false, List, [], ◌∷◌, ◌++◌}
use Rattle.cvss_audit.specs.Files.{without_blanks}

-- what more bytes add to those from the first on that is no blank. The Boolean: some of those are there.
abbrev pub more_text : Bool → List ℕ → List ℕ
more_text true more = more
more_text false more = without_blanks more

abbrev pub has_bytes : List ℕ → Bool
has_bytes [] = false
has_bytes (byte ∷ bytes) = true

-- a byte 10 ends a line in the text
pub record IsCut (text : List ℕ) : Type 0 where
  pub line : List ℕ
  pub after : List ℕ
  pub one_line : All (λ byte. byte ≢ 10) line
  pub split : text ≡ line ++ 10 ∷ after

-- whether it does
abbrev pub HasLineEnd : List ℕ → Bool → Type 0
HasLineEnd text true = IsCut text
HasLineEnd text false = All (λ byte. byte ≢ 10) text

-- the first line that is not blank has not ended in the bytes, and they have something of it or not
pub record IsOpen (bytes : List ℕ) (begun : Bool) : Type 0 where
  pub one_line : All (λ byte. byte ≢ 10) (without_blanks bytes)
  pub begins : begun ≡ has_bytes (without_blanks bytes)
