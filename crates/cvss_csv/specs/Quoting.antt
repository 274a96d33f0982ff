-- How a text is written as a field: RFC 4180, section 2, rules 6 and 7.
use Rattle.std.specs.Prelude.{ℕ, ◌==◌, ◌||◌, Bool, List, [], ◌∷◌, ◌++◌, flat_map, if◌then◌else◌}
use Rattle.std.specs.List.{list_any}
use Rattle.cvss_csv.specs.Fields.{comma, line_feed, quote}

-- a field with this byte is written in quotes: a quote, a comma, a line feed or a carriage return
abbrev pub wants_quotes : ℕ → Bool
wants_quotes byte = (byte == quote) || ((byte == comma) || ((byte == line_feed) || (byte == 13)))

-- a byte of a quoted field
abbrev pub doubled : ℕ → List ℕ
doubled byte = if byte == quote then quote ∷ quote ∷ [] else byte ∷ []

-- the field that has this text as its value
abbrev pub field_of : List ℕ → List ℕ
field_of text =
    if list_any wants_quotes text then quote ∷ flat_map doubled text ++ quote ∷ [] else text
