-- JSON objects as lists of members: RFC 8259, section 4.
use Rattle.std.specs.Prelude.{ℕ, List, [], ◌∷◌}
use Rattle.serde_json.specs.Data.{Data, object, Members, no_members, put}

-- a member's name and its value
abbrev pub Member : Type 0
Member = List ℕ × Data

-- an object's members with these put into it; a later one replaces an earlier one of its name
abbrev pub with_members : List Member → Members → Members
with_members [] members = members
with_members (each ∷ rest) members = with_members rest (put each.0 each.1 members)

-- the object that has these members
abbrev pub object_of : List Member → Data
object_of members = object (with_members members no_members)
