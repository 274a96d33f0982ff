-- Texts of vector bytes in which the letters `CVSS` are nowhere, and that do not end with a divider.
use Rattle.std.proofs.Common.{◌≡◌, ℕ, suc, ◌+◌, ◌-◌, ◌≤◌, Bool, true, false, not, ◌&&◌, List, [], ◌∷◌, ◌++◌, codes, get_or, length, take, refl, sym, ap, ap₂, ◌∙◌, arith, length-append}
use Rattle.std.specs.Char.{to_ascii_uppercase}
use Rattle.std.specs.List.{All, list_all}
use Rattle.std.proofs.lemmas.Bool.{and_from, and_parts, false≢true, not-true, or_from}
use Rattle.std.proofs.lemmas.Bool.Decides.{nat_tests}
use Rattle.std.proofs.lemmas.List.{get_or-append-add, get_or-map, length-map, take_all}
use Rattle.std.proofs.lemmas.List.Elements.{All-head, All-tail}
use Rattle.std.proofs.lemmas.List.Sums.{suffix_len_is}
use Rattle.cvss_base.specs.Text.{colon, has, joined, read_as, slash, uppercased}
use Rattle.cvss_matches.specs.Matches.{label_of}
use Rattle.cvss_matches.specs.Parts.{begins_like, is_ending, is_like, is_vector_byte, without_dividers}
use Rattle.cvss_matches.specs.laws.Whole.{IsWhole, has_second_prefix}
use Rattle.cvss_matches.proofs.PrefixLemmas.{starts_before}

-- the test passes at each byte and what follows it
abbrev pub at_each : (ℕ → List ℕ → Bool) → List ℕ → Bool
at_each test [] = true
at_each test (byte ∷ rest) = test byte rest && at_each test rest

-- a slash passes the test, which does not look past the next one
pub record IsLocal (test : ℕ → List ℕ → Bool) : Type 0 where
  pub before : (byte : ℕ) (front rest : List ℕ) → test byte (front ++ slash ∷ rest) ≡ test byte front
  pub at_slash : (rest : List ℕ) → test slash rest ≡ true

pub each_with_slash : (test : ℕ → List ℕ → Bool) → IsLocal test → (front rest : List ℕ) → at_each test front ≡ true → at_each test rest ≡ true → at_each test (front ++ slash ∷ rest) ≡ true
each_with_slash test local [] rest first then = and_from (test slash rest) (at_each test rest) (local.at_slash rest) then
each_with_slash test local (byte ∷ front) rest first then =
    let both = and_parts (test byte front) (at_each test front) first in
    and_from (test byte (front ++ slash ∷ rest)) (at_each test (front ++ slash ∷ rest)) (local.before byte front rest ∙ both.0) (each_with_slash test local front rest both.1 then)

-- what holds of pieces, and of two texts with a slash between them, holds of the joined pieces
pub joined_holds : (P : List ℕ → Type 0) → ((front rest : List ℕ) → P front → P rest → P (front ++ slash ∷ rest)) → (parts : List (List ℕ)) → 1 ≤ length parts → All P parts → P (joined parts)
joined_holds P with_slash [] some all = absurd (omega (arith, some))
joined_holds P with_slash (part ∷ []) some all = All-head P part [] all
joined_holds P with_slash (part ∷ next ∷ parts) some all =
    with_slash part (joined (next ∷ parts)) (All-head P part (next ∷ parts) all)
    (joined_holds P with_slash (next ∷ parts) (omega arith) (All-tail P part (next ∷ parts) all))

-- vectors are written with the byte, which begins no letters `CVSS`, each in either case
abbrev pub plain_at : ℕ → List ℕ → Bool
plain_at byte rest = is_vector_byte byte && not (begins_like (codes "CVSS") (byte ∷ rest))

-- the last byte is no divider
abbrev pub ends_whole : List ℕ → Bool
ends_whole text = not (is_ending (get_or text (length text - 1) colon))

abbrev pub is_plain : List ℕ → Bool
is_plain text = at_each plain_at text && ends_whole text

plain_local : IsLocal plain_at
plain_local = record {
  before = λ byte front rest. ap (λ letters. is_vector_byte byte && not letters) (starts_before is_like (codes "CVSS") (byte ∷ front) slash rest refl);
  at_slash = λ rest. refl;
}

pub plain_with_slash : (front rest : List ℕ) → at_each plain_at front ≡ true → at_each plain_at rest ≡ true → at_each plain_at (front ++ slash ∷ rest) ≡ true
plain_with_slash = each_with_slash plain_at plain_local

pub ends_after : (front rest : List ℕ) → ends_whole rest ≡ true → ends_whole (front ++ slash ∷ rest) ≡ true
ends_after front [] ends = absurd (false≢true ends)
ends_after front (byte ∷ rest) ends =
    let last : length (front ++ slash ∷ byte ∷ rest) - 1 ≡ length front + suc (length (byte ∷ rest) - 1) = omega (arith, length-append front (slash ∷ byte ∷ rest)) in
    ap (λ n. not (is_ending (get_or (front ++ slash ∷ byte ∷ rest) n colon))) last
    ∙ ap (λ each. not (is_ending each)) (get_or-append-add front (slash ∷ byte ∷ rest) (suc (length (byte ∷ rest) - 1)) colon) ∙ ends

pub IsPlain-joined : (parts : List (List ℕ)) → 1 ≤ length parts → All (λ part. is_plain part ≡ true) parts → is_plain (joined parts) ≡ true
IsPlain-joined = joined_holds (λ text. is_plain text ≡ true) (λ front rest first then.
    let here = and_parts (at_each plain_at front) (ends_whole front) first in
    let there = and_parts (at_each plain_at rest) (ends_whole rest) then in
    and_from (at_each plain_at (front ++ slash ∷ rest)) (ends_whole (front ++ slash ∷ rest)) (plain_with_slash front rest here.0 there.0) (ends_after front rest there.1))

-- read in any ASCII case
pub uppercased_vector_byte : (byte : ℕ) → is_vector_byte (to_ascii_uppercase byte) ≡ is_vector_byte byte
uppercased_vector_byte byte = grind (arith, nat_tests)

uppercased_divider : (byte : ℕ) → is_ending (to_ascii_uppercase byte) ≡ is_ending byte
uppercased_divider byte = grind (arith, nat_tests)

uppercased_letter : (pattern byte : ℕ) → is_like pattern (to_ascii_uppercase byte) ≡ is_like pattern byte
uppercased_letter pattern byte = grind (arith, nat_tests)

uppercased_like : (pattern text : List ℕ) → begins_like pattern (uppercased text) ≡ begins_like pattern text
uppercased_like [] text = refl
uppercased_like (first ∷ pattern) [] = refl
uppercased_like (first ∷ pattern) (byte ∷ text) = ap₂ (λ (a b : Bool). a && b) (uppercased_letter first byte) (uppercased_like pattern text)

each_uppercased : (text : List ℕ) → at_each plain_at (uppercased text) ≡ at_each plain_at text
each_uppercased [] = refl
each_uppercased (byte ∷ text) =
    ap₂ (λ (a b : Bool). a && b)
    (ap₂ (λ (vector letters : Bool). vector && not letters) (uppercased_vector_byte byte) (uppercased_like (codes "CVSS") (byte ∷ text)))
    (each_uppercased text)

ends_uppercased : (text : List ℕ) → ends_whole (uppercased text) ≡ ends_whole text
ends_uppercased [] = refl
ends_uppercased (byte ∷ text) =
    ap (λ n. not (is_ending (get_or (uppercased (byte ∷ text)) (n - 1) colon))) (length-map (byte ∷ text) to_ascii_uppercase)
    ∙ ap (λ last. not (is_ending last)) (get_or-map to_ascii_uppercase (byte ∷ text) (length (byte ∷ text) - 1) colon colon (omega arith))
    ∙ ap not (uppercased_divider (get_or (byte ∷ text) (length (byte ∷ text) - 1) colon))

pub plain_read : (any_case : Bool) (text : List ℕ) → is_plain (read_as any_case text) ≡ true → is_plain text ≡ true
plain_read true text is = sym (ap₂ (λ (a b : Bool). a && b) (each_uppercased text) (ends_uppercased text)) ∙ is
plain_read false text is = is

-- a plain text after a byte with which vectors are written
plain_written : (text : List ℕ) → at_each plain_at text ≡ true → list_all is_vector_byte text ≡ true
plain_written [] each = refl
plain_written (byte ∷ rest) each =
    let both = and_parts (plain_at byte rest) (at_each plain_at rest) each in
    and_from (is_vector_byte byte) (list_all is_vector_byte rest) (and_parts (is_vector_byte byte) _ both.0).0 (plain_written rest both.1)

plain_once : (byte : ℕ) (rest : List ℕ) → at_each plain_at rest ≡ true → has_second_prefix (byte ∷ rest) ≡ false
plain_once byte [] each = refl
plain_once byte (next ∷ rest) each =
    let both = and_parts (plain_at next rest) (at_each plain_at rest) each in
    or_from (begins_like (codes "CVSS") (next ∷ rest)) (has_second_prefix (next ∷ rest))
    (not-true (begins_like (codes "CVSS") (next ∷ rest)) (and_parts (is_vector_byte next) _ both.0).1) (plain_once next rest both.1)

less_nothing : (text : List ℕ) → ends_whole text ≡ true → without_dividers text ≡ text
less_nothing text ends =
    ap (λ count. take (length text - count) text)
    (suffix_len_is is_ending text (length text) colon (omega arith) (λ k at below. absurd (omega (arith, at, below))) (λ some. not-true _ ends))
    ∙ take_all (length text - (length text - length text)) text (omega arith)

pub IsWhole-plain : (byte : ℕ) (rest : List ℕ) → is_vector_byte byte ≡ true → at_each plain_at rest ≡ true → ends_whole (byte ∷ rest) ≡ true
    → has slash (byte ∷ rest) ≡ true → label_of (byte ∷ rest) ≡ 0 → IsWhole (byte ∷ rest)
IsWhole-plain byte rest vector each ends slashed unlabelled = record {
  written = and_from (is_vector_byte byte) (list_all is_vector_byte rest) vector (plain_written rest each);
  with_slash = slashed;
  once = plain_once byte rest each;
  unlabelled = unlabelled;
  ended = less_nothing (byte ∷ rest) ends;
  some = λ none. cc none;
}
