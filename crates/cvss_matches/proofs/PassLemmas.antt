-- Why what has no slash and no `%` is passed over.
use Rattle.std.proofs.Common.{◌≡◌, ◌≢◌, ℕ, suc, ◌+◌, ◌<◌, ◌≤◌, Bool, true, false, eqb, ltb, ◌⊎◌, inl, inr, List, [], ◌∷◌, ◌++◌, get_or, length, take, drop, sym, ap, ◌∙◌, subst, arith, length-take-le, drop-drop, get_or-take}
use Rattle.std.specs.List.{concat, list_any}
use Rattle.std.proofs.lemmas.Bool.{both_ways, eq-eqb, ne_eqb, or_from, or_left, or_parts, or_right}
use Rattle.std.proofs.lemmas.Bool.Decides.{leb_tells}
use Rattle.std.proofs.lemmas.List.{take_all}
use Rattle.std.proofs.lemmas.List.Elements.{All-nil, All-cons, All-from_get_or}
use Rattle.std.proofs.lemmas.List.Folds.{list_any-append, list_any_at, list_any_none}
use Rattle.cvss_base.specs.Text.{slash}
use Rattle.cvss_lines.specs.Search.{IsFirstOf}
use Rattle.cvss_matches.specs.Parts.{backslash, is_escape, parts_of, percent}
use Rattle.cvss_matches.specs.Matches.{Candidate, IsFound, candidate_of, candidates_from}
use Rattle.cvss_matches.specs.CandidatesLeft.{NoneFound}
use Rattle.cvss_matches.specs.private.Passing.{Passes, has_mark, is_mark}
use Rattle.cvss_matches.proofs.AfterLemmas.{candidates_from-append}
use Rattle.cvss_matches.proofs.FindLemmas.{found_with_mark}
use Rattle.cvss_matches.proofs.PartLemmas.{concat-parts}
use Rattle.cvss_matches.proofs.OffsetLemmas.{IsInside, match_inside}

-- no byte passes a test before an offset, where none does before a later one
none_before : (test : ℕ → Bool) (text : List ℕ) (end offset : ℕ) → ((k : ℕ) → k < end → test (get_or text k 0) ≡ false) → offset ≤ end → end ≤ length text → list_any test (take offset text) ≡ false
none_before test text end offset none before within = list_any_none test (take offset text)
    (All-from_get_or (λ byte. test byte ≡ false) (take offset text) 0 (λ k below.
    let at : k < offset = omega (arith, below, length-take-le offset text (omega (arith, before, within))) in
    subst (λ byte. test byte ≡ false) (sym (get_or-take offset text k 0 at)) (none k (omega (arith, at, before)))))

-- no mark is before an offset at or before the first
pub unmarked_before : (text : List ℕ) (end offset : ℕ) → IsFirstOf slash percent text end → offset ≤ end → has_mark (take offset text) ≡ false
unmarked_before text end offset first before =
    none_before is_mark text end offset
    (λ k below. or_from (eqb (get_or text k 0) slash) (eqb (get_or text k 0) percent) (ne_eqb _ slash (first.without_one k below)) (ne_eqb _ percent (first.without_other k below)))
    before first.within

-- whether a byte is one with which a colon or a slash begins that is written in another way
pub escape_at : (byte : ℕ) → (byte ≡ percent) ⊎ (byte ≡ backslash) → is_escape byte ≡ true
escape_at byte (inl is) = or_left (eqb byte percent) (eqb byte backslash) (eq-eqb byte percent is)
escape_at byte (inr is) = or_right (eqb byte percent) (eqb byte backslash) (eq-eqb byte backslash is)

pub escape_not : (byte : ℕ) → byte ≢ percent → byte ≢ backslash → is_escape byte ≡ false
escape_not byte one other = or_from (eqb byte percent) (eqb byte backslash) (ne_eqb byte percent one) (ne_eqb byte backslash other)

-- one is in a text exactly if the first is within the text
pub escape_by_first : (text : List ℕ) (offset : ℕ) → IsFirstOf percent backslash text offset → ltb offset (length text) ≡ list_any is_escape text
escape_by_first text offset first = elim (leb_tells (suc offset) (length text)) [
  | inl within ↦ within.0 ∙ sym (list_any_at is_escape text offset 0 (omega (arith, within.1)) (escape_at _ (first.found (omega (arith, within.1)))))
  | inr past ↦ past.0 ∙ sym (sym (ap (list_any is_escape) (take_all offset text (omega (arith, past.1))))
      ∙ none_before is_escape text offset offset (λ k below. escape_not _ (first.without_one k below) (first.without_other k below)) (omega arith) first.within)
]

-- what is inside an unmarked part is not found
unmarked_inside : (offset : ℕ) (part : List ℕ) (candidate : Candidate) → IsInside offset part candidate → has_mark part ≡ false → has_mark candidate.text ≡ false
unmarked_inside offset part candidate inside none =
    let after = (or_parts (has_mark inside.front) (has_mark (candidate.text ++ inside.back))
    (sym (list_any-append is_mark inside.front (candidate.text ++ inside.back)) ∙ sym (ap has_mark inside.is) ∙ none)).1 in
    (or_parts (has_mark candidate.text) (has_mark inside.back) (sym (list_any-append is_mark candidate.text inside.back) ∙ after)).0

none_found : (offset : ℕ) (parts : List (List ℕ)) → has_mark (concat parts) ≡ false → NoneFound (candidates_from offset parts)
none_found offset [] none = All-nil (λ candidate. ¬ (IsFound candidate.text))
none_found offset (part ∷ parts) none =
    let both = or_parts (has_mark part) (has_mark (concat parts)) (sym (list_any-append is_mark part (concat parts)) ∙ none) in
    All-cons (λ candidate. ¬ (IsFound candidate.text)) (candidate_of offset part) _
    (λ found. both_ways _ (unmarked_inside offset part (candidate_of offset part) (match_inside offset part) both.0) (found_with_mark _ found))
    (none_found (offset + length part) parts both.1)

-- the first bytes of what is left of a text, which have no mark and after which it is cut
pub passes_no_slash : (text rest : List ℕ) (offset count : ℕ) → rest ≡ drop offset text → count ≤ length rest → has_mark (take count rest) ≡ false
    → parts_of rest ≡ parts_of (take count rest) ++ parts_of (drop count rest)
    → Passes (candidates_from offset (parts_of (drop offset text))) (candidates_from (offset + count) (parts_of (drop (offset + count) text)))
passes_no_slash text rest offset count rest_is within unmarked cut =
    let front = take count rest in
    let passed = candidates_from offset (parts_of front) in
    let length_is : length (concat (parts_of front)) ≡ count = ap length (concat-parts front) ∙ length-take-le count rest within in
    record {
      passed = passed;
      is = ap (λ left. candidates_from offset (parts_of left)) (sym rest_is) ∙ ap (candidates_from offset) cut
          ∙ candidates_from-append offset (parts_of front) (parts_of (drop count rest))
          ∙ ap (λ at. passed ++ candidates_from (offset + at) (parts_of (drop count rest))) length_is
          ∙ ap (λ left. passed ++ candidates_from (offset + count) (parts_of left)) (ap (drop count) rest_is ∙ drop-drop count offset text);
      none = none_found offset (parts_of front) (ap has_mark (concat-parts front) ∙ unmarked);
    }
