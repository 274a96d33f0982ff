-- Texts that are candidates as a whole, wherever they are.
use Rattle.std.proofs.Common.{◌≡◌, ℕ, suc, ◌+◌, true, false, cond, not, eqb, ◌||◌, ◌&&◌, Bool, List, [], ◌∷◌, ◌++◌, codes, drop, length, take, refl, sym, ap, ap₂, ◌∙◌, subst, append-nil, arith, drop_at, drop-drop}
use Rattle.std.specs.List.{Contains, concat, list_all, list_any, starts_with}
use Rattle.std.proofs.Math.Seq.{take-append-add}
use Rattle.std.proofs.lemmas.Bool.{and_parts, cond-false, cond-true, cond_both, false≢true, not-true, not_from_false, not_from_true, or_from, or_left, or_parts}
use Rattle.std.proofs.lemmas.Bool.Decides.{nat_tests}
use Rattle.std.proofs.lemmas.List.Elements.{Contains-append_right}
use Rattle.std.proofs.lemmas.List.Sums.{take_while-cons}
use Rattle.cvss_base.specs.Text.{has, slash}
use Rattle.cvss_matches.specs.Parts.{backslash, before_escape, before_other, begins_like, begins_run, begins_with_prefix, is_encoded, is_escape, is_like, is_run_byte, is_vector_byte, parts_of, percent, unencoded, without_dividers}
use Rattle.cvss_matches.specs.Matches.{Candidate, label_of, candidate_of, candidates_of, candidates_from, without_label}
use Rattle.cvss_matches.specs.laws.Whole.{IsMatchedBetween, IsWhole, has_second_prefix, is_other}
use Rattle.cvss_matches.specs.private.Passing.{uncut_length}
use Rattle.cvss_matches.proofs.AfterLemmas.{backslash_first, candidates_from-append, parts_after}
use Rattle.cvss_matches.proofs.PartLemmas.{concat-parts, parts_run, run_of_uncut, uncut_more}
use Rattle.cvss_matches.proofs.PrefixLemmas.{no_prefix, starts_before}

-- the letters are not in a text and after it where they are not in the text, before a byte with which no vector is written
unlike_letters : (other : ℕ) → not (is_vector_byte other) ≡ true → list_any (λ byte. is_like byte other) (codes "CVSS") ≡ false
unlike_letters other is = grind (arith, nat_tests)

letters_after : (text after : List ℕ) → is_other after ≡ true → begins_like (codes "CVSS") (text ++ after) ≡ begins_like (codes "CVSS") text
letters_after text [] is = ap (begins_like (codes "CVSS")) (append-nil text)
letters_after text (other ∷ rest) is = starts_before is_like (codes "CVSS") text other rest (unlike_letters other is)

vector_run : (byte : ℕ) (rest : List ℕ) → is_vector_byte byte ≡ true → begins_run (byte ∷ rest) ≡ true
vector_run byte rest is = or_left (is_run_byte byte) _ (or_left (is_vector_byte byte) _ is)

-- a whole text is not cut, before a byte with which no vector is written
uncut_whole : (byte : ℕ) (rest after : List ℕ) → list_all is_vector_byte rest ≡ true → has_second_prefix (byte ∷ rest) ≡ false → is_other after ≡ true
    → uncut_length (rest ++ after) ≡ length rest + uncut_length after
uncut_whole byte [] after written once is = omega arith
uncut_whole byte (next ∷ rest) after written once is =
    let bytes = and_parts (is_vector_byte next) (list_all is_vector_byte rest) written in
    let inside = or_parts (begins_like (codes "CVSS") (next ∷ rest)) (has_second_prefix (next ∷ rest)) once in
    let prefix = no_prefix (next ∷ (rest ++ after)) (letters_after (next ∷ rest) after is ∙ inside.0) in
    let uncut = uncut_more next (rest ++ after)
    (or_from (not (begins_run (next ∷ (rest ++ after)))) (begins_with_prefix (next ∷ (rest ++ after))) (not_from_true (begins_run (next ∷ (rest ++ after))) (vector_run next (rest ++ after) bytes.0)) prefix) in
    omega (arith, uncut, uncut_whole next rest after bytes.1 inside.1 is)

-- a byte of a run with which no vector is written is a percent or a backslash
escape_of_run : (vector is_percent is_backslash more : Bool) → vector ≡ false → ((vector || is_percent) || (is_backslash && more)) ≡ true → (is_percent || is_backslash) ≡ true
escape_of_run true is_percent is_backslash more other run = absurd (false≢true (sym other))
escape_of_run false true is_backslash more other run = refl
escape_of_run false false true more other run = refl
escape_of_run false false false more other run = absurd (false≢true run)

-- the first part that it begins goes on with nothing or such a byte
tail_encoded : (after : List ℕ) → is_other after ≡ true → before_escape (take (uncut_length after) after) ≡ []
tail_encoded [] is = refl
tail_encoded (other ∷ rest) is =
    cond_both _ 0 (suc (uncut_length rest)) (λ count. before_escape (take count (other ∷ rest)) ≡ []) (λ cut. refl)
    (λ uncut.
    let escape : is_escape other ≡ true = ap (λ back. eqb other percent || back) (sym (backslash_first other))
    ∙ escape_of_run (is_vector_byte other) (eqb other percent) (eqb backslash other) (starts_with eqb rest (codes "/"))
    (not-true (is_vector_byte other) is) (run_of_uncut other rest uncut) in
    take_while-cons (λ each. not (is_escape each)) other (take (uncut_length rest) rest) ∙ cond-false (not (is_escape other)) _ [] (not_from_true (is_escape other) escape))

pub whole_first : (text after : List ℕ) → IsWhole text → is_other after ≡ true
    → parts_of (text ++ after) ≡ (text ++ take (uncut_length after) after) ∷ parts_of (drop (uncut_length after) after)
whole_first [] after whole is = absurd (whole.some refl)
whole_first (byte ∷ rest) after whole is =
    let bytes = and_parts (is_vector_byte byte) (list_all is_vector_byte rest) whole.written in
    let count = uncut_length after in
    parts_run byte (rest ++ after) (vector_run byte (rest ++ after) bytes.0)
    ∙ ap (λ n. (byte ∷ take n (rest ++ after)) ∷ parts_of (drop n (rest ++ after))) (uncut_whole byte rest after bytes.1 whole.once is)
    ∙ ap₂ (λ (part left : List ℕ). (byte ∷ part) ∷ parts_of left) (take-append-add rest after count)
    (sym (drop-drop count (length rest) (rest ++ after)) ∙ ap (drop count) (drop_at rest after (length rest) refl))

-- a part that is a whole text, or that and what begins with such a byte
pub not_escape : (byte : ℕ) → is_vector_byte byte ≡ true → is_escape byte ≡ false
not_escape byte is = grind (arith, nat_tests)

before_tail : (text tail : List ℕ) → list_all is_vector_byte text ≡ true → before_escape tail ≡ [] → before_escape (text ++ tail) ≡ text
before_tail [] tail written none = none
before_tail (byte ∷ text) tail written none =
    let both = and_parts (is_vector_byte byte) (list_all is_vector_byte text) written in
    take_while-cons (λ each. not (is_escape each)) byte (text ++ tail)
    ∙ cond-true (not (is_escape byte)) _ [] (not_from_false (is_escape byte) (not_escape byte both.0))
    ∙ ap (λ more. byte ∷ more) (before_tail text tail both.1 none)

whole_unencoded : (text tail : List ℕ) → IsWhole text → before_escape tail ≡ [] → unencoded (text ++ tail) ≡ text
whole_unencoded text tail whole none =
    let part = text ++ tail in
    let other = cond (is_encoded part) (before_other part) part in
    ap (λ front. cond (has slash front) front other) (before_tail text tail whole.written none) ∙ cond-true (has slash text) text other whole.with_slash

pub without_no_label : (offset : ℕ) (text : List ℕ) → label_of text ≡ 0 → without_label offset text ≡ record { offset = offset; text = text }
without_no_label offset text none =
    ap (λ count. record { offset = offset + count; text = drop count text }) none ∙ ap (λ at. record { offset = at; text = text }) (omega arith)

whole_match : (offset : ℕ) (text tail : List ℕ) → IsWhole text → before_escape tail ≡ [] → candidate_of offset (text ++ tail) ≡ record { offset = offset; text = text }
whole_match offset text tail whole none =
    ap (λ part. without_label offset (without_dividers part)) (whole_unencoded text tail whole none) ∙ ap (without_label offset) whole.ended
    ∙ without_no_label offset text whole.unlabelled

pub matched_between : (before text after : List ℕ) → IsWhole text → IsMatchedBetween before text after
matched_between before text after whole is_before is_after =
    let count = uncut_length after in
    let part = text ++ take count after in
    let more = parts_of (drop count after) in
    let candidate : Candidate = record { offset = length before; text = text } in
    let rest = candidates_from (length before + length part) more in
    let first : candidates_from (0 + length (concat (parts_of before))) (part ∷ more) ≡ candidate ∷ rest =
    ap (λ offset. candidates_from offset (part ∷ more)) (omega (arith, ap length (concat-parts before)))
    ∙ ap (λ each. each ∷ rest) (whole_match (length before) text (take count after) whole (tail_encoded after is_after)) in
    subst (λ candidates. Contains candidates candidate)
    (sym (ap (candidates_from 0) (parts_after before (text ++ after) is_before ∙ ap (λ parts. parts_of before ++ parts) (whole_first text after whole is_after))
    ∙ candidates_from-append 0 (parts_of before) (part ∷ more) ∙ ap (λ after_it. candidates_from 0 (parts_of before) ++ after_it) first))
    (Contains-append_right (candidates_from 0 (parts_of before)) (candidate ∷ rest) candidate (0, omega arith, refl))

pub matched_alone : (text : List ℕ) → IsWhole text → candidates_of text ≡ record { offset = 0; text = text } ∷ []
matched_alone text whole =
    ap candidates_of (sym (append-nil text)) ∙ ap (candidates_from 0) (whole_first text [] whole refl)
    ∙ ap (λ candidate. candidate ∷ []) (whole_match 0 text [] whole refl)
