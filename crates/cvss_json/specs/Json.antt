-- JSON text without spaces: RFC 8259. Its strings are ones that need no escape.
use Rattle.std.specs.Prelude.{◌≡◌, ℕ, Bool, true, false, ◌+◌, ◌*◌, ◌/◌, ◌%◌, nat_eq, if◌then◌else◌, ℤ, pos, int_lt, unsigned_abs, List, [], ◌∷◌, ◌++◌, codes, map, Option}
use Rattle.std.specs.List.{cons_option}
use Rattle.std.specs.Fmt.{decimal}

-- a string
abbrev pub string_text : List ℕ → List ℕ
string_text text = 34 ∷ (text ++ 34 ∷ [])

-- a member of an object: its name, and the text of its value
abbrev pub Member : Type 0
Member = List ℕ × List ℕ

abbrev pub member_text : Member → List ℕ
member_text member = string_text member.0 ++ 58 ∷ member.1

-- a comma, where members come before
abbrev pub comma_if : Bool → List ℕ
comma_if true = codes ","
comma_if false = []

-- what follows the opening brace of an object, or members of it: these members, and the closing brace
abbrev pub rest_of_object : Bool → List Member → List ℕ
rest_of_object later [] = codes "}"
rest_of_object later (member ∷ members) = comma_if later ++ (member_text member ++ rest_of_object true members)

-- the object of these members, in this order
abbrev pub object_text : List Member → List ℕ
object_text members = 123 ∷ rest_of_object false members

-- these members are written after a part of an object, in which members come before or none
abbrev pub WritesMembers : Bool → List Member → List ℕ → List ℕ → Type 0
WritesMembers later members old new =
    (more : List Member) → new ++ rest_of_object true more ≡ old ++ rest_of_object later (members ++ more)

-- a member, or none, is written after a part of an object, and then members are there or none
abbrev pub WritesMember : Bool → Option Member → Bool → List ℕ → List ℕ → Type 0
WritesMember before member after old new =
    (more : List Member) → new ++ rest_of_object after more ≡ old ++ rest_of_object before (cons_option member more)

-- values that follow another, and the bracket after them
abbrev pub further_values : List (List ℕ) → List ℕ
further_values [] = codes "]"
further_values (value ∷ values) = 44 ∷ (value ++ further_values values)

-- the array of these values
abbrev pub array_text : List (List ℕ) → List ℕ
array_text [] = codes "[]"
array_text (value ∷ values) = 91 ∷ (value ++ further_values values)

-- the units of decimal places, in ten-millionths
abbrev pub place_units : List ℕ
place_units = 1_000_000 ∷ 100_000 ∷ 10_000 ∷ 1000 ∷ 100 ∷ 10 ∷ 1 ∷ []

-- the digits of these units of a number, as far as not all that are left are zeros
abbrev pub places : List ℕ → ℕ → List ℕ
places [] n = []
places (unit ∷ units) n = n / unit % 10 ∷ (if nat_eq (n % unit) 0 then [] else places units n)

unfoldable pub places_text : List ℕ → ℕ → List ℕ
places_text units n = map (λ digit. 48 + digit) (places units n)

-- so many ten-millionths, as the shortest decimal that has this value and at least one place: see laws/Decimals
unfoldable pub decimal_text : ℤ → List ℕ
decimal_text count =
    (if int_lt count (pos 0) then codes "-" else [])
    ++ (decimal (unsigned_abs count / 10_000_000)
    ++ 46 ∷ places_text place_units (unsigned_abs count % 10_000_000))

-- so many tenths, with one place
abbrev pub tenths_text : ℕ → List ℕ
tenths_text tenths = decimal_text (pos (tenths * 1_000_000))
