-- How a reader writes the score from which on vectors count: as a number, or by the name of a severity, which is its lowest
-- score by v3.1 specification, section 5, and v4.0 specification, section 6.
use Rattle.std.specs.Prelude.{◌-◌, ◌+◌, ◌*◌, ◌==◌, ◌&&◌, ℕ, List, [], ◌∷◌, bytes_eq, codes, map, Option, None, Some, if◌then◌else◌}
use Rattle.std.specs.Char.{is_ascii_digit, to_ascii_lowercase}

-- the tenths of a number by its two digits
abbrev pub by_digits : ℕ → ℕ → Option ℕ
by_digits whole tenth =
    if is_ascii_digit whole && is_ascii_digit tenth then Some (10 * (whole - 48) + (tenth - 48)) else None

-- the tenths of a number below 10 with one decimal, or with none
abbrev pub below_ten : List ℕ → Option ℕ
below_ten (whole ∷ []) = by_digits whole 48
below_ten (whole ∷ point ∷ tenth ∷ []) = if point == 46 then by_digits whole tenth else None
below_ten _ = None

-- the tenths of a number from 0 to 10
abbrev pub number_of : List ℕ → Option ℕ
number_of text =
    if bytes_eq text (codes "10") then Some 100
    else if bytes_eq text (codes "10.0") then Some 100
    else below_ten text

-- the lowest score, in tenths, of the severity with this name
abbrev pub lowest_of : List ℕ → Option ℕ
lowest_of name =
    if bytes_eq name (codes "none") then Some 0
    else if bytes_eq name (codes "low") then Some 1
    else if bytes_eq name (codes "medium") then Some 40
    else if bytes_eq name (codes "high") then Some 70
    else if bytes_eq name (codes "critical") then Some 90
    else None

-- the tenths that a text says: those of a number, or of a severity in any ASCII case
abbrev pub threshold : List ℕ → Option ℕ
threshold text = elim (number_of text) [
  | Some tenths ↦ Some tenths
  | None ↦ lowest_of (map to_ascii_lowercase text)
]
