-- How the name of an input is shown, so that it breaks no line and no terminal.
use Rattle.std.specs.Prelude.{ℕ, ◌/◌, ◌%◌, if◌then◌else◌, List, [], ◌∷◌, flat_map}
use Rattle.std.specs.Char.{digit_char, encode_utf8}
use Rattle.std.specs.Str.{chars, is_utf8}
use Rattle.cvss_json.specs.Escapes.{escaped_char, is_from, is_hidden}

-- a character that is not to be seen as itself is shown by its escape in JSON, any other as it is
unfoldable pub shown_char : ℕ → List ℕ
shown_char c = if is_hidden c then escaped_char c else encode_utf8 c

-- printable ASCII is shown as it is, any other byte by two hexadecimal digits: \xff
abbrev pub shown_byte : ℕ → List ℕ
shown_byte byte =
    if is_from 0x20 0x7e byte then byte ∷ []
    else 92 ∷ 120 ∷ digit_char (byte / 16) ∷ digit_char (byte % 16) ∷ []

-- a name as bytes
abbrev pub shown_bytes : List ℕ → List ℕ
shown_bytes name = flat_map shown_byte name

-- a name by its characters, or by its bytes where it is not UTF-8
abbrev pub shown_name : List ℕ → List ℕ
shown_name name = if is_utf8 name then flat_map shown_char (chars name) else shown_bytes name
