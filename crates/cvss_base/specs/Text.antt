-- How the text of a vector is cut into components: CVSS v2 guide, section 2.4; v3.1 specification,
-- section 6; v4.0 specification, section 7.
use Rattle.std.specs.Prelude.{◌≡◌, ℕ, ◌==◌, Bool, true, false, List, ◌∷◌, ◌++◌, codes, map, count_by}
use Rattle.std.specs.List.{slice_split, join_with_byte, before_first, after_first, list_any}
use Rattle.std.specs.Char.{to_ascii_uppercase}

-- the byte between two pieces
abbrev pub slash : ℕ
slash = 47

-- the byte between a name and its value
abbrev pub colon : ℕ
colon = 58

-- whether the byte is in the text
abbrev pub has : ℕ → List ℕ → Bool
has byte text = list_any (λ each. each == byte) text

-- the pieces of a text, cut at each slash; each may be empty
abbrev pub pieces : List ℕ → List (List ℕ)
pieces text = slice_split (λ byte. byte == slash) text

-- the text of the pieces
abbrev pub joined : List (List ℕ) → List ℕ
joined parts = join_with_byte slash parts

-- the byte between the numbers of a version
abbrev pub dot : ℕ
dot = 46

-- a component is a piece with exactly one colon
pub record IsComponent (piece : List ℕ) : Type 0 where
  pub one_colon : count_by (λ byte. byte == colon) piece ≡ 1

-- the name is before the colon
abbrev pub name_part : List ℕ → List ℕ
name_part piece = before_first (λ byte. byte == colon) piece

-- the value is after the colon
abbrev pub value_part : List ℕ → List ℕ
value_part piece = after_first (λ byte. byte == colon) piece

-- the component with this name and value
abbrev pub component : List ℕ → List ℕ → List ℕ
component name value = name ++ (colon ∷ value)

-- a metric in messages, by its version, its abbreviation and its name in parentheses
abbrev pub described : List ℕ → List ℕ → List ℕ → List ℕ
described version name words = version ++ codes " " ++ name ++ codes " (" ++ words ++ codes ") metric"

-- the text with its ASCII letters turned to upper case
abbrev pub uppercased : List ℕ → List ℕ
uppercased text = map to_ascii_uppercase text

-- the text as it is compared: in upper case where any case is read, and else as it is
abbrev pub read_as : Bool → List ℕ → List ℕ
read_as true text = uppercased text
read_as false text = text
