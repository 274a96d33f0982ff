-- The parts and candidates after a text that ends with a byte of no run.
use Rattle.std.proofs.Common.{◌≡◌, ◌≢◌, ℕ, ◌+◌, Bool, true, false, cond, not, eqb, ◌||◌, ◌&&◌, ◌⊎◌, inl, inr, List, [], ◌∷◌, ◌++◌, codes, length, refl, reverse, sym, ap, ap₂, ◌∙◌, subst, append_assoc, arith, length-append}
use Rattle.std.specs.Char.{is_ascii_digit, to_ascii_uppercase}
use Rattle.std.specs.List.{concat, list_all, list_any, onto_first, prefix_len, starts_with}
use Rattle.std.proofs.lemmas.Bool.{and_left, and_parts, both_ways, cond-true, eqb-true, false_from_ne_true, or_from, or_parts}
use Rattle.std.proofs.lemmas.Bool.Decides.{nat_tests}
use Rattle.std.proofs.lemmas.List.{length_push, reverse-append, reverse-reverse}
use Rattle.std.proofs.lemmas.List.Elements.{All-weaker}
use Rattle.std.proofs.lemmas.List.Folds.{list_any_none}
use Rattle.std.proofs.lemmas.List.Sums.{AllPass-from_list_all}
use Rattle.cvss_matches.specs.Parts.{backslash, begins_like, begins_part, begins_run, begins_with_prefix, is_like, is_run_byte, loose_prefixes, parts_of}
use Rattle.cvss_matches.specs.Matches.{candidate_of, candidates_from}
use Rattle.cvss_matches.specs.laws.Whole.{EndsOutside, is_edge}
use Rattle.cvss_matches.proofs.PartLemmas.{concat-parts, parts_alone}
use Rattle.cvss_matches.proofs.PrefixLemmas.{starts_before}

-- a byte of no run is as none of those of runs
run_digit : (byte : ℕ) → is_ascii_digit byte ≡ true → is_run_byte byte ≡ true
run_digit byte is = grind (arith, nat_tests)

run_uppercased : (byte : ℕ) → is_run_byte (to_ascii_uppercase byte) ≡ is_run_byte byte
run_uppercased byte = grind (arith, nat_tests)

run_either : (zero : Bool) (pattern byte : ℕ) → is_run_byte pattern ≡ true → cond zero (is_ascii_digit byte) (eqb (to_ascii_uppercase byte) pattern) ≡ true → is_run_byte byte ≡ true
run_either true pattern byte run like = run_digit byte like
run_either false pattern byte run like = sym (run_uppercased byte) ∙ ap is_run_byte (eqb-true (to_ascii_uppercase byte) pattern like) ∙ run

unlike_all : (pattern : List ℕ) (other : ℕ) → list_all is_run_byte pattern ≡ true → is_run_byte other ≡ false → list_any (λ byte. is_like byte other) pattern ≡ false
unlike_all pattern other run outside =
    list_any_none (λ byte. is_like byte other) pattern
    (All-weaker (λ byte. is_run_byte byte ≡ true) (λ byte. is_like byte other ≡ false)
    (λ byte in_run. false_from_ne_true (is_like byte other) (λ like. both_ways (is_run_byte other) outside (run_either (eqb byte 48) byte other in_run like)))
    pattern (AllPass-from_list_all is_run_byte pattern run))

likes_before : (patterns : List (List ℕ)) (text : List ℕ) (other : ℕ) (rest : List ℕ) → list_all (λ pattern. list_all is_run_byte pattern) patterns ≡ true → is_run_byte other ≡ false
    → list_any (λ pattern. begins_like pattern (text ++ other ∷ rest)) patterns ≡ list_any (λ pattern. begins_like pattern text) patterns
likes_before [] text other rest run outside = refl
likes_before (pattern ∷ patterns) text other rest run outside =
    let both = and_parts (list_all is_run_byte pattern) (list_all (λ each. list_all is_run_byte each) patterns) run in
    ap₂ (λ (a b : Bool). a || b) (starts_before is_like pattern text other rest (unlike_all pattern other both.0 outside)) (likes_before patterns text other rest both.1 outside)

outside_run : (other : ℕ) → is_edge other ≡ false → is_run_byte other ≡ false
outside_run other outside = (or_parts (is_run_byte other) (eqb other backslash) outside).0

other_than : (other : ℕ) → is_run_byte other ≡ false → list_any (λ byte. eqb byte other) (codes "CVSS:") ≡ false
other_than other outside = grind (arith, nat_tests)

-- such a byte begins no prefix, nor does what follows it belong to one
prefix_before : (text : List ℕ) (other : ℕ) (rest : List ℕ) → is_run_byte other ≡ false → begins_with_prefix (text ++ other ∷ rest) ≡ begins_with_prefix text
prefix_before text other rest outside =
    ap₂ (λ (a b : Bool). a || b) (starts_before eqb (codes "CVSS:") text other rest (other_than other outside))
    (ap₂ (λ (a b : Bool). a && b) (starts_before is_like (codes "CVSS") text other rest (unlike_all (codes "CVSS") other refl outside))
    (likes_before loose_prefixes text other rest refl outside))

escaped_other : (other : ℕ) → is_edge other ≡ false → list_any (λ byte. eqb byte other) (codes "\\/") ≡ false
escaped_other other outside = grind (arith, nat_tests)

pub backslash_first : (byte : ℕ) → eqb backslash byte ≡ eqb byte backslash
backslash_first byte = grind (arith, nat_tests)

-- nor does it belong to a run, or to a backslash before it
run_alone : (other : ℕ) (rest : List ℕ) → is_edge other ≡ false → begins_run (other ∷ rest) ≡ false
run_alone other rest outside =
    let both = or_parts (is_run_byte other) (eqb other backslash) outside in
    or_from (is_run_byte other) (starts_with eqb (other ∷ rest) (codes "\\/")) both.0
    (and_left (eqb backslash other) (starts_with eqb rest (codes "/")) (backslash_first other ∙ both.1))

run_before : (byte : ℕ) (text : List ℕ) (other : ℕ) (rest : List ℕ) → is_edge other ≡ false → begins_run (byte ∷ (text ++ other ∷ rest)) ≡ begins_run (byte ∷ (text ++ other ∷ []))
run_before byte text other rest outside =
    ap (λ escaped. is_run_byte byte || escaped)
    (starts_before eqb (codes "\\/") (byte ∷ text) other rest (escaped_other other outside) ∙ sym (starts_before eqb (codes "\\/") (byte ∷ text) other [] (escaped_other other outside)))

begins_before : (text : List ℕ) (other : ℕ) (rest : List ℕ) → is_edge other ≡ false → begins_part (text ++ other ∷ rest) ≡ begins_part (text ++ other ∷ [])
begins_before [] other rest outside =
    ap (λ run. not run || begins_with_prefix (other ∷ rest)) (run_alone other rest outside) ∙ sym (ap (λ run. not run || begins_with_prefix (other ∷ [])) (run_alone other [] outside))
begins_before (byte ∷ text) other rest outside =
    ap₂ (λ (run prefix : Bool). not run || prefix) (run_before byte text other rest outside)
    (prefix_before (byte ∷ text) other rest (outside_run other outside) ∙ sym (prefix_before (byte ∷ text) other [] (outside_run other outside)))

either_after : (cut : Bool) (byte : ℕ) (parts after : List (List ℕ)) → parts ≢ []
    → cond cut ((byte ∷ []) ∷ (parts ++ after)) (onto_first byte (parts ++ after)) ≡ cond cut ((byte ∷ []) ∷ parts) (onto_first byte parts) ++ after
either_after true byte parts after some = refl
either_after false byte [] after some = absurd (some refl)
either_after false byte (part ∷ parts) after some = refl

parts_after_byte : (front : List ℕ) (last : ℕ) (rest : List ℕ) → is_edge last ≡ false → parts_of (front ++ last ∷ rest) ≡ parts_of (front ++ last ∷ []) ++ parts_of rest
parts_after_byte [] last rest outside =
    parts_alone last rest (run_alone last rest outside) ∙ sym (ap (λ parts. parts ++ parts_of rest) (parts_alone last [] (run_alone last [] outside)))
parts_after_byte (byte ∷ front) last rest outside =
    let text = front ++ last ∷ [] in
    ap₂ (λ (cut : Bool) (parts : List (List ℕ)). cond cut ((byte ∷ []) ∷ parts) (onto_first byte parts))
    (ap₂ (λ (run part : Bool). not run || part) (run_before byte front last rest outside) (begins_before front last rest outside)) (parts_after_byte front last rest outside)
    ∙ either_after (not (begins_run (byte ∷ text)) || begins_part text) byte (parts_of text) (parts_of rest)
    (λ none. absurd (omega (arith, ap length (sym (concat-parts text) ∙ ap concat none), length_push front last)))

-- a text that is empty or ends with a byte of no run
record EndsApart (text : List ℕ) : Type 0 where
  pub front : List ℕ
  pub last : ℕ
  pub is : text ≡ front ++ last ∷ []
  pub outside : is_edge last ≡ false

either_apart : (text back : List ℕ) → text ≡ reverse back → prefix_len is_edge back ≡ 0 → (text ≡ []) ⊎ EndsApart text
either_apart text [] is none = inl is
either_apart text (last ∷ back) is none = inr (record {
  front = reverse back;
  last = last;
  is = is ∙ reverse-append (last ∷ []) back;
  outside = false_from_ne_true (is_edge last) (λ run. absurd (omega (arith, none, cond-true (is_edge last) (1 + prefix_len is_edge back) 0 run)));
})

-- after such a text the parts are those of what is there
pub parts_after : (before rest : List ℕ) → EndsOutside before → parts_of (before ++ rest) ≡ parts_of before ++ parts_of rest
parts_after before rest outside = elim (either_apart before (reverse before) (sym (reverse-reverse before)) outside) [
  | inl none ↦ subst (λ text. parts_of (text ++ rest) ≡ parts_of text ++ parts_of rest) (sym none) refl
  | inr ends ↦ subst (λ text. parts_of (text ++ rest) ≡ parts_of text ++ parts_of rest) (sym ends.is)
      (ap parts_of (append_assoc ends.front (ends.last ∷ []) rest) ∙ parts_after_byte ends.front ends.last rest ends.outside)
]

pub candidates_from-append : (offset : ℕ) (parts after : List (List ℕ)) → candidates_from offset (parts ++ after) ≡ candidates_from offset parts ++ candidates_from (offset + length (concat parts)) after
candidates_from-append offset [] after = ap (λ at. candidates_from at after) (omega arith)
candidates_from-append offset (part ∷ parts) after =
    ap (λ more. candidate_of offset part ∷ more)
    (candidates_from-append (offset + length part) parts after
    ∙ ap (λ at. candidates_from (offset + length part) parts ++ candidates_from at after) (omega (arith, length-append part (concat parts))))
