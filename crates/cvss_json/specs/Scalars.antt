-- Values of members that are no objects or arrays, as the code has them.
use Rattle.std.specs.Prelude.{ℕ, ◌+◌, ◌*◌, List, [], ◌∷◌, codes, flat_map, length}
use Rattle.std.specs.Borrow.{Bor}
use Rattle.std.specs.Fmt.{decimal}
use Rattle.cvss_json.specs.Json.{Member, decimal_text, string_text, tenths_text}
use Rattle.cvss_json.specs.declared.member.Scalar.{Scalar}
use Rattle.cvss_json.specs.declared.member.Scalar.TheVariants.{Decimal, Tenths, Whole, Digits, Text, Null}

abbrev pub scalar_text : Scalar → List ℕ
scalar_text (Decimal count) = decimal_text count
scalar_text (Tenths tenths) = tenths_text tenths
scalar_text (Whole number) = decimal number
scalar_text (Digits numbers) = string_text (flat_map decimal numbers.now)
scalar_text (Text text) = string_text text.now
scalar_text Null = codes "null"

-- a member's name, and the text of its value
abbrev pub member_view : Bor (List ℕ) × Scalar → Member
member_view member = (member.0.now, scalar_text member.1)

-- no more bytes than these are written for a value
abbrev pub scalar_room : Scalar → ℕ
scalar_room (Decimal count) = 32
scalar_room (Tenths tenths) = 32
scalar_room (Whole number) = 20
scalar_room (Digits numbers) = 2 + 20 * length numbers.now
scalar_room (Text text) = 2 + length text.now
scalar_room Null = 4

-- and for a member
abbrev pub member_room : Bor (List ℕ) × Scalar → ℕ
member_room member = length member.0.now + scalar_room member.1 + 4

-- the room for several items, where this is the room for each
abbrev pub rooms : {X : Type 0} → (X → ℕ) → List X → ℕ
rooms room [] = 0
rooms room (item ∷ items) = room item + rooms room items
