-- Texts as they are read, and components cut at their colon.
use Rattle.std.proofs.Common.{◌≡◌, ℕ, ◌+◌, Bool, true, false, cond, eqb, ltb, List, [], ◌∷◌, length, drop, refl, sym, ap, ◌∙◌, arith}
use Rattle.std.specs.Char.{to_ascii_uppercase}
use Rattle.std.specs.List.{All, count_by, position_or_len}
use Rattle.std.proofs.lemmas.Bool.{false_from_ne_true}
use Rattle.std.proofs.lemmas.Bool.Decides.{nat_tests}
use Rattle.std.proofs.lemmas.List.{map-append, take-map, drop-map, take_at, drop_at, drop-drop, length-append, get_or_append_left, get_or_at}
use Rattle.std.proofs.lemmas.List.Folds.{fold-map}
use Rattle.std.proofs.lemmas.List.Sums.{sum_by-cons, sum_by-append, get_or-le-sum_by, position_or_len_is}
use Rattle.cvss_base.specs.Text.{slash, colon, name_part, value_part, component, uppercased, read_as}
use Rattle.cvss_base.specs.private.Component.{is_delimiter, delimiter_bytes}

abbrev pub is_slash : ℕ → Bool
is_slash byte = eqb byte slash

abbrev pub is_colon : ℕ → Bool
is_colon byte = eqb byte colon

-- the piece has one colon, and no other delimiter byte
pub record IsPart (piece : List ℕ) : Type 0 where
  pub one_colon : count_by is_colon piece ≡ 1
  pub one_delimiter : delimiter_bytes piece ≡ 1

-- raising letters makes and takes no colon, and no delimiter byte
uppercased_colon : (byte : ℕ) → is_colon (to_ascii_uppercase byte) ≡ is_colon byte
uppercased_colon byte = grind (arith, nat_tests)

uppercased_delimiter : (byte : ℕ) → is_delimiter (to_ascii_uppercase byte) ≡ is_delimiter byte
uppercased_delimiter byte = grind (arith, nat_tests)

position-uppercased : (text : List ℕ) → position_or_len is_colon (uppercased text) ≡ position_or_len is_colon text
position-uppercased [] = refl
position-uppercased (byte ∷ text) = cc (uppercased_colon byte, position-uppercased text)

-- how the parts of a piece are read
pub read-component : (any_case : Bool) (name value : List ℕ) → read_as any_case (component name value) ≡ component (read_as any_case name) (read_as any_case value)
read-component true name value = map-append to_ascii_uppercase name (colon ∷ value)
read-component false name value = refl

pub name_part-read : (any_case : Bool) (piece : List ℕ) → name_part (read_as any_case piece) ≡ read_as any_case (name_part piece)
name_part-read true piece = rw (position-uppercased piece) (take-map to_ascii_uppercase _ piece)
name_part-read false piece = refl

pub value_part-read : (any_case : Bool) (piece : List ℕ) → value_part (read_as any_case piece) ≡ read_as any_case (value_part piece)
value_part-read true piece = rw (position-uppercased piece) (drop-map to_ascii_uppercase _ piece)
value_part-read false piece = refl

-- a test that does not see whether letters are in upper case
count-read : (p : ℕ → Bool) → ((byte : ℕ) → p (to_ascii_uppercase byte) ≡ p byte) → (any_case : Bool) (piece : List ℕ) → count_by p (read_as any_case piece) ≡ count_by p piece
count-read p keeps true piece = fold-map (λ n x. n + cond (p x) 1 0) to_ascii_uppercase 0 piece ∙ simp keeps
count-read p keeps false piece = refl

pub delimiter_bytes-read : (any_case : Bool) (piece : List ℕ) → delimiter_bytes (read_as any_case piece) ≡ delimiter_bytes piece
delimiter_bytes-read = count-read is_delimiter uppercased_delimiter

pub IsPart-read : (any_case : Bool) (piece : List ℕ) → IsPart (read_as any_case piece) → IsPart piece
IsPart-read any_case piece is = record { one_colon = sym (count-read is_colon uppercased_colon any_case piece) ∙ is.one_colon; one_delimiter = sym (delimiter_bytes-read any_case piece) ∙ is.one_delimiter }

-- bytes that pass a test, by their count
module _ (p : ℕ → Bool) where
  pub count_by-cons : (byte : ℕ) (text : List ℕ) → count_by p (byte ∷ text) ≡ cond (p byte) 1 0 + count_by p text
  count_by-cons byte text = sum_by-cons (λ x. cond (p x) 1 0) byte text

  pub All-from_count : (text : List ℕ) → count_by p text ≡ 0 → All (λ byte. p byte ≡ false) text
  All-from_count text none k d inside =
      false_from_ne_true _ (λ passes. omega (arith, get_or-le-sum_by (λ x. cond (p x) 1 0) text k d inside, ap (λ b. cond {A = ℕ} b 1 0) passes))

-- a delimiter byte is a slash, a colon or beyond ASCII
one_sort : (byte : ℕ) → cond {A = ℕ} (is_delimiter byte) 1 0 ≡ cond {A = ℕ} (is_slash byte) 1 0 + cond {A = ℕ} (is_colon byte) 1 0 + cond {A = ℕ} (ltb 127 byte) 1 0
one_sort byte = grind (arith, nat_tests)

pub delimiter_sorts : (text : List ℕ) → delimiter_bytes text ≡ count_by is_slash text + count_by is_colon text + count_by (ltb 127) text
delimiter_sorts [] = refl
delimiter_sorts (byte ∷ text) =
    omega (arith, one_sort byte, delimiter_sorts text, count_by-cons is_delimiter byte text, count_by-cons is_slash byte text, count_by-cons is_colon byte text, count_by-cons (ltb 127) byte text)

-- a component whose name has no delimiter byte is cut at its colon
module _ (name value : List ℕ) (name_plain : delimiter_bytes name ≡ 0) where
  colon_index : position_or_len is_colon (component name value) ≡ length name
  colon_index =
      let no_colon = All-from_count is_colon name (omega (arith, delimiter_sorts name)) in
      position_or_len_is is_colon (component name value) (length name) colon (omega (arith, length-append name (colon ∷ value)))
      (λ k below. rw (get_or_append_left name (colon ∷ value) colon k below) (no_colon k colon below))
      (λ _. rw (get_or_at name colon value colon (length name) refl) refl)

  pub name_part-component : name_part (component name value) ≡ name
  name_part-component = rw colon_index (take_at name (colon ∷ value) (length name) refl)

  pub value_part-component : value_part (component name value) ≡ value
  value_part-component = rw colon_index (sym (drop-drop 1 (length name) (component name value)) ∙ ap (drop 1) (drop_at name (colon ∷ value) (length name) refl))

  counted : (p : ℕ → Bool) → count_by p (component name value) ≡ count_by p name + (cond (p colon) 1 0 + count_by p value)
  counted p = sum_by-append (λ x. cond (p x) 1 0) name (colon ∷ value) ∙ ap (λ n. count_by p name + n) (count_by-cons p colon value)

  pub IsPart-component : delimiter_bytes value ≡ 0 → IsPart (component name value)
  IsPart-component value_plain = record {
    one_colon = omega (arith, counted is_colon, delimiter_sorts name, delimiter_sorts value);
    one_delimiter = omega (arith, counted is_delimiter);
  }
