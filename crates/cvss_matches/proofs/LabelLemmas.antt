-- Labels before vectors of CVSS v2.
use Rattle.std.proofs.Common.{◌≡◌, ℕ, suc, ◌+◌, ◌-◌, ◌<◌, ◌≤◌, Bool, true, false, cond, ◌||◌, ◌&&◌, not, eqb, List, [], ◌∷◌, codes, length, None, Option, Some, refl, sym, ap, ◌∙◌, arith}
use Rattle.std.specs.Prelude.{unwrap_or}
use Rattle.std.specs.Char.{is_ascii_digit}
use Rattle.std.specs.List.{All, starts_with}
use Rattle.std.specs.Option.{option_map}
use Rattle.std.proofs.lemmas.Bool.{and_parts, cond-false}
use Rattle.cvss_base.specs.Text.{colon, joined, slash}
use Rattle.cvss_matches.specs.Matches.{label_of}
use Rattle.cvss_matches.specs.Parts.{begins_with_prefix, ends_label, label_length}
use Rattle.cvss_matches.proofs.PlainLemmas.{IsLocal, at_each, each_with_slash, joined_holds}
use Rattle.cvss_matches.proofs.PrefixLemmas.{starts_before}

-- so many bytes more
abbrev pub longer_by : ℕ → Option ℕ → Option ℕ
longer_by count length = option_map (λ n. n + count) length

-- no label ends in the bytes before what is left of a text
pub record IsAfterBytes (text left : List ℕ) : Type 0 where
  pub within : length left ≤ length text
  pub is : label_length text ≡ longer_by (length text - length left) (label_length left)

label_bound_either : (ends : Bool) (more : Option ℕ) (size : ℕ) → unwrap_or more 0 ≤ suc size → unwrap_or (cond ends (Some 2) (option_map suc more)) 0 ≤ suc (suc size)
label_bound_either true more size bound = omega arith
label_bound_either false None size bound = omega arith
label_bound_either false (Some n) size bound = omega (arith, bound)

pub label_bound : (text : List ℕ) → unwrap_or (label_length text) 0 ≤ length text
label_bound [] = omega arith
label_bound (byte ∷ []) = omega arith
label_bound (byte ∷ next ∷ rest) =
    label_bound_either (ends_label byte next && starts_with eqb rest (codes "AV:")) (label_length (next ∷ rest)) (length rest) (label_bound (next ∷ rest))

pub no_label_left : (text left : List ℕ) → IsAfterBytes text left → length left < 2 → None ≡ label_length text
no_label_left text [] after few = sym after.is
no_label_left text (byte ∷ []) after few = sym after.is
no_label_left text (byte ∷ next ∷ left) after few = absurd (omega (arith, few))

-- the byte is no digit, and no colon before `AV:`
abbrev pub free_at : ℕ → List ℕ → Bool
free_at byte rest = not (is_ascii_digit byte) && not (eqb byte colon && starts_with eqb rest (codes "AV:"))

free_local : IsLocal free_at
free_local = record {
  before = λ byte front rest. ap (λ starts. not (is_ascii_digit byte) && not (eqb byte colon && starts)) (starts_before eqb (codes "AV:") front slash rest refl);
  at_slash = λ rest. refl;
}

pub free_joined : (parts : List (List ℕ)) → 1 ≤ length parts → All (λ part. at_each free_at part ≡ true) parts → at_each free_at (joined parts) ≡ true
free_joined = joined_holds (λ text. at_each free_at text ≡ true) (each_with_slash free_at free_local)

free_ends : (is_colon digit is_slash starts : Bool) → not digit ≡ true → not (is_colon && starts) ≡ true → ((is_colon || (digit && is_slash)) && starts) ≡ false
free_ends true false is_slash true no_digit free = cc
free_ends true false is_slash false no_digit free = refl
free_ends false false is_slash starts no_digit free = refl
free_ends is_colon true is_slash starts no_digit free = cc

-- where each byte is so, no label ends
no_label : (text : List ℕ) → at_each free_at text ≡ true → label_length text ≡ None
no_label [] free = refl
no_label (byte ∷ []) free = refl
no_label (byte ∷ next ∷ rest) free =
    let here = and_parts (free_at byte (next ∷ rest)) (at_each free_at (next ∷ rest)) free in
    let then = and_parts (free_at next rest) (at_each free_at rest) here.1 in
    cond-false _ (Some 2) (option_map suc (label_length (next ∷ rest)))
    (free_ends (eqb next colon) (is_ascii_digit byte) (eqb next slash) (starts_with eqb rest (codes "AV:"))
    (and_parts (not (is_ascii_digit byte)) _ here.0).0 (and_parts (not (is_ascii_digit next)) _ then.0).1)
    ∙ ap (option_map suc) (no_label (next ∷ rest) here.1)

unlabelled_either : (prefixed : Bool) (length : Option ℕ) → length ≡ None → cond prefixed 0 (unwrap_or length 0) ≡ 0
unlabelled_either true length none = refl
unlabelled_either false length none = ap (λ it. unwrap_or it 0) none

pub unlabelled : (text : List ℕ) → at_each free_at text ≡ true → label_of text ≡ 0
unlabelled text free = unlabelled_either (begins_with_prefix text) (label_length text) (no_label text free)
