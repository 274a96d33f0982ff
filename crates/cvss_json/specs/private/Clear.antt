-- Texts that need no escape.
use Rattle.std.specs.Prelude.{ℕ, Bool, ◌&&◌, ltb, nat_eq, not, List}
use Rattle.std.specs.List.{list_all}

-- the byte is an ASCII character that is no control character, no quotation mark and no backslash
abbrev pub is_clear : ℕ → Bool
is_clear byte = ltb 31 byte && ltb byte 127 && not (nat_eq byte 34) && not (nat_eq byte 92)

abbrev pub are_clear : List ℕ → Bool
are_clear text = list_all is_clear text
