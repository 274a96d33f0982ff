-- Scores in tenths, and their texts: v3.0 specification, section 8; v3.1, section 7; v4.0, section 8.2.
use Rattle.std.specs.Prelude.{◌≡◌, ℕ, ◌*◌, ◌+◌, ◌/◌, ◌%◌, ◌^◌, nat_lt, ℤ, pos, ◌*ℤ◌, ◌≤ℤ◌, int_lt, unsigned_abs, List, [], ◌++◌, codes, if◌then◌else◌}
use Rattle.std.specs.Fmt.{decimal}

-- the count of 10^-24 is that of such a number of tenths
pub record IsInTenths (IsNumber : ℤ → Type 0) (count : ℤ) : Type 0 where
  pub number : ℤ
  pub is_number : IsNumber number
  pub is_count : count ≡ number *ℤ pos (10 ^ 23)

-- so many tenths, from 0 to 10
pub record IsFromZeroToTen (r : ℤ) : Type 0 where
  pub from_zero : pos 0 ≤ℤ r
  pub to_ten : r ≤ℤ pos 100

-- so many tenths, with one decimal
abbrev pub tenths_text : ℕ → List ℕ
tenths_text tenths = decimal (tenths / 10) ++ codes "." ++ decimal (tenths % 10)

-- the tenths nearest to so many of 10^-24, of two equally near the even one
abbrev pub even_tenths : ℕ → ℕ
even_tenths count =
    if nat_lt (2 * (count % 10 ^ 23)) (10 ^ 23) then count / 10 ^ 23
    else (if nat_lt (10 ^ 23) (2 * (count % 10 ^ 23)) then count / 10 ^ 23 + 1
    else count / 10 ^ 23 + count / 10 ^ 23 % 2)

-- a minus before each negative value
abbrev pub sign : ℤ → List ℕ
sign value = if int_lt value (pos 0) then codes "-" else []

-- the text of a count of 10^-24
abbrev pub score_text : ℤ → List ℕ
score_text value = sign value ++ tenths_text (even_tenths (unsigned_abs value))
