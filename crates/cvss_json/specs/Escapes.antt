-- Strings of JSON with escapes: RFC 8259, section 7.
use Rattle.std.specs.Prelude.{ℕ, Bool, ◌/◌, ◌%◌, ◌==◌, ◌&&◌, ◌||◌, leb, ltb, if◌then◌else◌, List, [], ◌∷◌, ◌++◌, flat_map}
use Rattle.std.specs.Char.{digit_char, encode_utf8}
use Rattle.std.specs.Str.{chars}

-- the letter of a character's short escape, or 0 where it has none
abbrev pub short_escape : ℕ → ℕ
short_escape c =
    if (c == 34) || (c == 92) then c
    else if c == 8 then 98
    else if c == 9 then 116
    else if c == 10 then 110
    else if c == 12 then 102
    else if c == 13 then 114
    else 0

-- from the first of these characters to the last
abbrev pub is_from : ℕ → ℕ → ℕ → Bool
is_from first last c = leb first c && leb c last

-- the character is not to be seen as itself: a control character, a separator of lines or paragraphs, or a mark of the
-- direction in which text is read
abbrev pub is_hidden : ℕ → Bool
is_hidden c =
    is_from 0 0x1f c || is_from 0x7f 0x9f c || is_from 0x200e 0x200f c || is_from 0x2028 0x202e c || is_from 0x2066 0x2069 c

-- the escape of a character below U+10000 by its four hexadecimal digits
abbrev pub unicode_escape : ℕ → List ℕ
unicode_escape c =
    92 ∷ 117 ∷ digit_char (c / 4096) ∷ digit_char (c / 256 % 16) ∷ digit_char (c / 16 % 16) ∷ digit_char (c % 16) ∷ []

-- what is written for a character
unfoldable pub escaped_char : ℕ → List ℕ
escaped_char c =
    if ltb 0 (short_escape c) then 92 ∷ short_escape c ∷ []
    else if is_hidden c then unicode_escape c
    else encode_utf8 c

-- what is written for the characters of a text, which is UTF-8
abbrev pub escaped : List ℕ → List ℕ
escaped text = flat_map escaped_char (chars text)

-- and between its quotation marks
abbrev pub quoted : List ℕ → List ℕ
quoted text = 34 ∷ (escaped text ++ 34 ∷ [])
