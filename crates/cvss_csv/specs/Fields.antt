-- The fields of a record, and their values: RFC 4180, section 2, rules 4 to 7.
use Rattle.std.specs.Prelude.{ℕ, ◌==◌, ◌||◌, Bool, false, List, [], ◌∷◌, drop, if◌then◌else◌, take}
use Rattle.std.specs.List.{onto_first}
use Rattle.cvss_csv.specs.declared.state.State.{State}
use Rattle.cvss_csv.specs.declared.state.State.TheVariants.{Start, Plain, Quoted, Closing}

-- the byte around a quoted field
abbrev pub quote : ℕ
quote = 34

-- the byte between two fields
abbrev pub comma : ℕ
comma = 44

-- the byte that ends a record
abbrev pub line_feed : ℕ
line_feed = 10

-- the state after a byte that is outside quotes and is no quote: a comma and a line feed begin a field
abbrev pub after_unquoted : ℕ → State
after_unquoted byte = if (byte == comma) || (byte == line_feed) then Start else Plain

-- the state after a byte. A quote with which a field begins opens it; in it a quote closes it, unless another follows. A
-- quote anywhere else is a byte like others.
abbrev pub next : State → ℕ → State
next Start byte = if byte == quote then Quoted else after_unquoted byte
next Plain byte = after_unquoted byte
next Quoted byte = if byte == quote then Closing else Quoted
next Closing byte = if byte == quote then Quoted else after_unquoted byte

-- the state after some bytes
abbrev pub state_after : State → List ℕ → State
state_after state [] = state
state_after state (byte ∷ bytes) = state_after (next state byte) bytes

-- the byte is a delimiter outside quotes
abbrev pub is_end : ℕ → State → ℕ → Bool
is_end delimiter Quoted byte = false
is_end delimiter Start byte = byte == delimiter
is_end delimiter Plain byte = byte == delimiter
is_end delimiter Closing byte = byte == delimiter

-- the pieces of a text between the delimiters that are outside quotes, in this state
abbrev pub cut : ℕ → State → List ℕ → List (List ℕ)
cut delimiter state [] = [] ∷ []
cut delimiter state (byte ∷ bytes) =
    if is_end delimiter state byte then [] ∷ cut delimiter Start bytes
    else onto_first byte (cut delimiter (next state byte) bytes)

-- the fields of a record, which is given without its line end
abbrev pub fields : List ℕ → List (List ℕ)
fields body = cut comma Start body

-- what is after the quote with which a field begins, with one quote for each two. What follows a closing quote belongs to
-- the value as it is.
abbrev pub unquoted : List ℕ → List ℕ
unquoted [] = []
unquoted (byte ∷ []) = if byte == quote then [] else byte ∷ []
unquoted (byte ∷ following ∷ bytes) =
    if byte == quote then (if following == quote then quote ∷ unquoted bytes else following ∷ bytes)
    else byte ∷ unquoted (following ∷ bytes)

-- the value of a field
abbrev pub value : List ℕ → List ℕ
value [] = []
value (byte ∷ bytes) = if byte == quote then unquoted bytes else byte ∷ bytes

-- the value of the first of some fields, and nothing where there is none
abbrev pub first_value : List (List ℕ) → List ℕ
first_value [] = []
first_value (field ∷ more) = value field

-- the value of the field with this index, counted from 0; nothing, where there is none
abbrev pub value_at : ℕ → List (List ℕ) → List ℕ
value_at index all = first_value (take 1 (drop index all))
