-- Printable names are shown as they are.
use Rattle.std.proofs.Common.{◌≡◌, ◌<◌, ◌∙◌, ℕ, Bool, true, false, List, [], ◌∷◌, append-nil, ap, sym, arith, refl, flat_map, length, if◌then◌else◌}
use Rattle.std.specs.Char.{encode_utf8, IsScalar}
use Rattle.std.specs.List.{list_all}
use Rattle.std.specs.Str.{chars, is_utf8, IsAscii, IsUtf8}
use Rattle.std.proofs.lemmas.Bool.{and_parts}
use Rattle.std.proofs.lemmas.Bool.Decides.{nat_tests}
use Rattle.std.proofs.lemmas.Str.{IsUtf8-encode, IsUtf8-from_is_utf8, chars-IsAscii, chars-nil, chars_past_char, is_utf8-from_IsUtf8}
use Rattle.std.proofs.lemmas.Str.Ascii.{IsAscii-nil, IsAscii-cons, encode_ascii}
use Rattle.cvss_json.specs.Escapes.{escaped, escaped_char, is_from, is_hidden}
use Rattle.cvss_frame.specs.Names.{shown_bytes, shown_char, shown_name}

is_plain : ℕ → Bool
is_plain byte = is_from 0x20 0x7e byte

-- a printable character is below 128, and is shown as it is
module _ (byte : ℕ) (plain : is_from 0x20 0x7e byte ≡ true) where
  ascii : byte < 128
  ascii = grind (arith, nat_tests, plain)

  seen : is_hidden byte ≡ false
  seen = grind (arith, nat_tests, plain)

  itself : shown_char byte ≡ byte ∷ []
  unfolding shown_char
  itself = rw (seen, encode_ascii byte ascii) refl

below : (name : List ℕ) → list_all (is_from 0x20 0x7e) name ≡ true → IsAscii name
below [] plain = IsAscii-nil
below (byte ∷ name) plain =
    let both = and_parts (is_from 0x20 0x7e byte) (list_all (is_from 0x20 0x7e) name) plain in
    IsAscii-cons byte name (ascii byte both.0) (below name both.1)

each_char : (name : List ℕ) → list_all (is_from 0x20 0x7e) name ≡ true → flat_map shown_char name ≡ name
each_char [] plain = refl
each_char (byte ∷ name) plain =
    let both = and_parts (is_from 0x20 0x7e byte) (list_all (is_from 0x20 0x7e) name) plain in
    rw (itself byte both.0, each_char name both.1) refl

each_byte : (name : List ℕ) → list_all (is_from 0x20 0x7e) name ≡ true → shown_bytes name ≡ name
each_byte [] plain = refl
each_byte (byte ∷ name) plain =
    let both = and_parts (is_from 0x20 0x7e byte) (list_all (is_from 0x20 0x7e) name) plain in
    rw (both.0, each_byte name both.1) refl

shown_if : (utf8 : Bool) (name : List ℕ) → list_all (is_from 0x20 0x7e) name ≡ true
    → (if utf8 then flat_map shown_char (chars name) else shown_bytes name) ≡ name
shown_if true name plain = rw (chars-IsAscii name (below name plain)) (each_char name plain)
shown_if false name plain = each_byte name plain

pub plain_shown : (name : List ℕ) → list_all (is_from 0x20 0x7e) name ≡ true → shown_name name ≡ name
plain_shown name plain = shown_if (is_utf8 name) name plain

-- a character by itself is escaped as in any text
pub escaped_alone : (c : ℕ) → IsScalar c → escaped (encode_utf8 c) ≡ escaped_char c
escaped_alone c scalar =
    ap (flat_map escaped_char)
    (chars_past_char (encode_utf8 c) [] c (IsUtf8-encode c scalar) (sym (append-nil (encode_utf8 c))) ∙ ap (λ rest. c ∷ rest) chars-nil)
    ∙ append-nil (escaped_char c)

pub shown_utf8 : (name : List ℕ) → IsUtf8 name → shown_name name ≡ flat_map shown_char (chars name)
shown_utf8 name utf8 = rw (is_utf8-from_IsUtf8 name utf8) refl

shown_unless : (name : List ℕ) (utf8 : Bool) → is_utf8 name ≡ utf8 → ¬ (IsUtf8 name)
    → (if utf8 then flat_map shown_char (chars name) else shown_bytes name) ≡ shown_bytes name
shown_unless name true is not = absurd (not (IsUtf8-from_is_utf8 name is))
shown_unless name false is not = refl

pub shown_otherwise : (name : List ℕ) → ¬ (IsUtf8 name) → shown_name name ≡ shown_bytes name
shown_otherwise name not = shown_unless name (is_utf8 name) refl not

-- and nothing is shown of nothing
pub none_shown : (name : List ℕ) → length name < 1 → shown_name name ≡ []
none_shown [] below = plain_shown [] refl
none_shown (byte ∷ name) below = absurd (omega (arith, below))
