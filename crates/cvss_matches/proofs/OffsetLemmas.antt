-- Where the candidates of a text are.
use Rattle.std.proofs.Common.{◌≡◌, ℕ, ◌+◌, ◌-◌, ◌≤◌, Bool, true, false, cond, List, [], ◌∷◌, ◌++◌, length, take, drop, sym, ap, ◌∙◌, append-nil, append_assoc, arith, length-append, length-take-le, take-append-drop, take_at, drop_at}
use Rattle.std.specs.Prelude.{unwrap_or}
use Rattle.std.specs.List.{All, concat, suffix_len}
use Rattle.std.proofs.lemmas.Bool.{cond_both}
use Rattle.std.proofs.lemmas.List.Elements.{All-nil, All-cons}
use Rattle.cvss_base.specs.Text.{has, slash}
use Rattle.cvss_matches.specs.Parts.{before_escape, begins_with_prefix, encoded_length, is_encoded, is_ending, label_length, without_dividers, parts_of, unencoded}
use Rattle.cvss_matches.specs.Matches.{Candidate, label_of, candidate_of, candidates_of, candidates_from}
use Rattle.cvss_matches.specs.laws.Offsets.{AreInOrder, StandsIn}
use Rattle.cvss_matches.proofs.LabelLemmas.{label_bound}
use Rattle.cvss_matches.proofs.PartLemmas.{concat-parts}

begins_either : (plain encoded : Bool) (part : List ℕ) (first second : ℕ) → (off : List ℕ) × (part ≡ cond plain (take first part) (cond encoded (take second part) part) ++ off)
begins_either true encoded part first second = (drop first part, sym (take-append-drop first part))
begins_either false true part first second = (drop second part, sym (take-append-drop second part))
begins_either false false part first second = ([], sym (append-nil part))

-- a part begins with the bytes in which its candidate is
begins : (part : List ℕ) → (off : List ℕ) × (part ≡ without_dividers (unencoded part) ++ off)
begins part =
    let text = unencoded part in
    let count = length text - suffix_len is_ending text in
    let first = begins_either (has slash (before_escape part)) (is_encoded part) part _ (encoded_length part) in
    (drop count text ++ first.0, first.1 ∙ ap (λ front. front ++ first.0) (sym (take-append-drop count text)) ∙ append_assoc (take count text) (drop count text) first.0)

pub shorter_bytes : (part : List ℕ) → length (without_dividers (unencoded part)) ≤ length part
shorter_bytes part = let first = begins part in omega (arith, ap length first.1, length-append (without_dividers (unencoded part)) first.0)

pub label_within : (text : List ℕ) → label_of text ≤ length text
label_within text = cond_both (begins_with_prefix text) 0 (unwrap_or (label_length text) 0) (λ count. count ≤ length text) (λ prefixed. omega arith) (λ other. label_bound text)

-- the candidate's bytes are in the part that begins at this offset, between others
pub record IsInside (offset : ℕ) (part : List ℕ) (candidate : Candidate) : Type 0 where
  pub front : List ℕ
  pub back : List ℕ
  pub is : part ≡ front ++ (candidate.text ++ back)
  pub at : candidate.offset ≡ offset + length front

pub match_inside : (offset : ℕ) (part : List ℕ) → IsInside offset part (candidate_of offset part)
match_inside offset part =
    let first = begins part in
    let bytes = without_dividers (unencoded part) in
    let label = label_of bytes in
    record {
      front = take label bytes;
      back = first.0;
      is = first.1 ∙ ap (λ front. front ++ first.0) (sym (take-append-drop label bytes)) ∙ append_assoc (take label bytes) (drop label bytes) first.0;
      at = omega (arith, length-take-le label bytes (label_within bytes));
    }

-- the candidate of a part ends within it
ends_inside : (offset : ℕ) (part : List ℕ) (candidate : Candidate) → IsInside offset part candidate → candidate.offset + length candidate.text ≤ offset + length part
ends_inside offset part candidate inside =
    omega (arith, inside.at, ap length inside.is, length-append inside.front (candidate.text ++ inside.back), length-append candidate.text inside.back)

stands : (text before part after : List ℕ) (candidate : Candidate) → text ≡ before ++ (part ++ after) → IsInside (length before) part candidate → StandsIn text candidate
stands text before part after candidate is inside =
    let front = before ++ inside.front in
    let rest = inside.back ++ after in
    let all : text ≡ front ++ (candidate.text ++ rest) =
    is ∙ ap (λ it. before ++ (it ++ after)) inside.is
    ∙ ap (λ it. before ++ it) (append_assoc inside.front (candidate.text ++ inside.back) after ∙ ap (λ it. inside.front ++ it) (append_assoc candidate.text inside.back after))
    ∙ sym (append_assoc before inside.front (candidate.text ++ rest)) in
    let at : length front ≡ candidate.offset = omega (arith, inside.at, length-append before inside.front) in
    record {
      within = omega (arith, at, ap length all, length-append front (candidate.text ++ rest), length-append candidate.text rest);
      is = ap (λ bytes. take (length candidate.text) (drop candidate.offset bytes)) all
          ∙ ap (take (length candidate.text)) (drop_at front (candidate.text ++ rest) candidate.offset at) ∙ take_at candidate.text rest (length candidate.text) (omega arith);
    }

all_stand : (text before : List ℕ) (offset : ℕ) (parts : List (List ℕ)) → offset ≡ length before → text ≡ before ++ concat parts → All (StandsIn text) (candidates_from offset parts)
all_stand text before offset [] offset_is is = All-nil (StandsIn text)
all_stand text before offset (part ∷ parts) offset_is is =
    All-cons (StandsIn text) _ _
    (rw offset_is (stands text before part (concat parts) _ is (match_inside (length before) part)))
    (all_stand text (before ++ part) (offset + length part) parts (omega (arith, offset_is, length-append before part)) (is ∙ sym (append_assoc before part (concat parts))))

pub matches_are_at : (text : List ℕ) → All (StandsIn text) (candidates_of text)
matches_are_at text = all_stand text [] 0 (parts_of text) (omega arith) (sym (concat-parts text))

ordered_from : (offset : ℕ) (parts : List (List ℕ)) → AreInOrder (candidates_from offset parts)
ordered_from offset [] = tt
ordered_from offset (part ∷ []) = tt
ordered_from offset (part ∷ next ∷ parts) =
    let this = ends_inside offset part (candidate_of offset part) (match_inside offset part) in
    let following = match_inside (offset + length part) next in
    (omega (arith, this, following.at), ordered_from (offset + length part) (next ∷ parts))

pub matches_ordered : (text : List ℕ) → AreInOrder (candidates_of text)
matches_ordered text = ordered_from 0 (parts_of text)
