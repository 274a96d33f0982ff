-- What is clear is written as it is.
use Rattle.std.proofs.Common.{◌≡◌, ◌<◌, ◌&&◌, ℕ, true, List, [], ◌∷◌, ◌++◌, arith, refl, flat_map, nat_eq, not, ap, ◌∙◌}
use Rattle.std.specs.Char.{encode_utf8}
use Rattle.std.specs.List.{list_all}
use Rattle.std.specs.Prelude.{ltb}
use Rattle.std.specs.Str.{chars, IsAscii}
use Rattle.std.proofs.lemmas.Bool.{and_parts, leb-true}
use Rattle.std.proofs.lemmas.Bool.Decides.{nat_tests}
use Rattle.std.proofs.lemmas.Str.{chars-IsAscii}
use Rattle.std.proofs.lemmas.Str.Ascii.{IsAscii-nil, IsAscii-cons, encode_ascii}
use Rattle.cvss_json.specs.Escapes.{escaped, escaped_char}
use Rattle.cvss_json.specs.private.Clear.{are_clear, is_clear}

-- a clear byte is below 128, and is written as it is
module _ (byte : ℕ) (clear : is_clear byte ≡ true) where
  ascii : byte < 128
  ascii = grind (arith, nat_tests, clear)

  itself : escaped_char byte ≡ byte ∷ []
  unfolding escaped_char
  itself = rw (encode_ascii byte ascii) (grind (arith, nat_tests, clear))

below : (text : List ℕ) → are_clear text ≡ true → IsAscii text
below [] clear = IsAscii-nil
below (byte ∷ text) clear =
    let both = and_parts (is_clear byte) (are_clear text) clear in
    IsAscii-cons byte text (ascii byte both.0) (below text both.1)

each : (text : List ℕ) → are_clear text ≡ true → flat_map escaped_char text ≡ text
each [] clear = refl
each (byte ∷ text) clear =
    let both = and_parts (is_clear byte) (are_clear text) clear in
    rw (itself byte both.0, each text both.1) refl

pub clear_escaped : (text : List ℕ) → are_clear text ≡ true → escaped text ≡ text
clear_escaped text clear = rw (chars-IsAscii text (below text clear)) (each text clear)
