-- Decimals as RFC 8259, section 6, has them: a minus sign or none, digits, a point and at least one place.
use Rattle.std.specs.Prelude.{◌≡◌, ◌≢◌, ◌<◌, ◌≤◌, ◌+◌, ◌-◌, ◌*◌, ◌^◌, ℕ, ℤ, pos, int_lt, unsigned_abs, if◌then◌else◌, List, [], ◌∷◌, ◌++◌, All, codes, decimal, fold, length, map, slice_index}

-- the number that decimal digits make, of which the first counts most
abbrev pub number_of : List ℕ → ℕ
number_of = fold (λ number digit. number * 10 + digit) 0

-- the text is the decimal that has the value of so many ten-millionths, and no shorter one has it and a place
pub record IsShortestDecimal (count : ℤ) (text : List ℕ) : Type 0 where
  pub whole : ℕ
  pub places : List ℕ
  pub written : text ≡ (if int_lt count (pos 0) then codes "-" else []) ++ (decimal whole ++ 46 ∷ map (λ digit. 48 + digit) places)
  pub digits : All (λ digit. digit < 10) places
  pub value : (whole * 10 ^ length places + number_of places) * 10_000_000 ≡ unsigned_abs count * 10 ^ length places
  pub any_place : 1 ≤ length places
  -- no zero ends several places
  pub shortest : 1 < length places → slice_index places (length places - 1) ≢ 0
