-- What is cut is the text again when it is joined.
use Rattle.std.proofs.Common.{◌≡◌, ℕ, ◌+◌, ◌-◌, ◌<◌, true, false, eqb, nat_lt, List, [], ◌∷◌, ◌++◌, flat_map, length, map, take, get_or, refl, sym, ap, ◌∙◌, subst, arith, append_assoc, append-nil, inl, inr, true≢false}
use Rattle.std.specs.List.{join_with_byte, onto_first}
use Rattle.std.specs.Io.BufRead.{ends_with_byte}
use Rattle.std.proofs.lemmas.Bool.{and_parts, cases_Bool, cond-true, cond-false, eqb-true, ltb-true}
use Rattle.std.proofs.lemmas.List.{take_all, take_more}
use Rattle.cvss_lines.specs.Lines.{all_but_last, last_piece}
use Rattle.cvss_csv.specs.Fields.{comma, cut, fields, is_end, line_feed, next, state_after}
use Rattle.cvss_csv.specs.Records.{ended_record, is_open, is_quoted, last_record, pieces, record_text, records}
use Rattle.cvss_csv.specs.declared.state.State.{State}
use Rattle.cvss_csv.specs.declared.state.State.TheVariants.{Start, Plain, Quoted, Closing}
use Rattle.cvss_csv.proofs.CuttingLemmas.{end_is, end_outside}

some_onto : (x : ℕ) (parts : List (List ℕ)) → 0 < length (onto_first x parts)
some_onto x [] = omega arith
some_onto x (part ∷ parts) = omega arith

-- there is a piece
pub some_piece : (d : ℕ) (p : State) (xs : List ℕ) → 0 < length (cut d p xs)
some_piece d p [] = omega arith
some_piece d p (x ∷ xs) = elim (cases_Bool (is_end d p x)) [
  | inl holds ↦ subst (λ (ps : List (List ℕ)). 0 < length ps) (sym (cond-true (is_end d p x) ([] ∷ cut d Start xs) (onto_first x (cut d (next p x) xs)) holds)) (omega arith)
  | inr fails ↦ subst (λ (ps : List (List ℕ)). 0 < length ps) (sym (cond-false (is_end d p x) ([] ∷ cut d Start xs) (onto_first x (cut d (next p x) xs)) fails)) (some_onto x (cut d (next p x) xs))
]

join_end : (d : ℕ) (parts : List (List ℕ)) → 0 < length parts → join_with_byte d ([] ∷ parts) ≡ d ∷ join_with_byte d parts
join_end d [] some = absurd (omega (arith, some))
join_end d (part ∷ parts) some = refl

join_onto : (d x : ℕ) (parts : List (List ℕ)) → join_with_byte d (onto_first x parts) ≡ x ∷ join_with_byte d parts
join_onto d x [] = refl
join_onto d x (part ∷ []) = refl
join_onto d x (part ∷ another ∷ parts) = refl

-- the pieces, with the delimiter between each two, are the text
pub join_cut : (d : ℕ) (p : State) (xs : List ℕ) → join_with_byte d (cut d p xs) ≡ xs
join_cut d p [] = refl
join_cut d p (x ∷ xs) = elim (cases_Bool (is_end d p x)) [
  | inl holds ↦
      ap (join_with_byte d) (cond-true (is_end d p x) ([] ∷ cut d Start xs) (onto_first x (cut d (next p x) xs)) holds)
      ∙ join_end d (cut d Start xs) (some_piece d Start xs) ∙ ap (λ ys. d ∷ ys) (join_cut d Start xs) ∙ ap (λ b. b ∷ xs) (sym (end_is d p x holds))
  | inr fails ↦
      ap (join_with_byte d) (cond-false (is_end d p x) ([] ∷ cut d Start xs) (onto_first x (cut d (next p x) xs)) fails)
      ∙ join_onto d x (cut d (next p x) xs) ∙ ap (λ ys. x ∷ ys) (join_cut d (next p x) xs)
]

pub join_fields : (body : List ℕ) → join_with_byte comma (fields body) ≡ body
join_fields body = join_cut comma Start body

-- a carriage return at the end of a piece, and what is before it
pub split_end : (xs : List ℕ) → ends_with_byte 13 xs ≡ true → take (length xs - 1) xs ++ 13 ∷ [] ≡ xs
split_end xs ends =
    let both = and_parts (nat_lt 0 (length xs)) (eqb (get_or xs (length xs - 1) 0) 13) ends in
    let some : 0 < length xs = ltb-true 0 (length xs) both.0 in
    ap (λ b. take (length xs - 1) xs ++ b ∷ []) (sym (eqb-true (get_or xs (length xs - 1) 0) 13 both.1))
    ∙ sym (take_more xs (length xs - 1) 0 (omega (arith, some)))
    ∙ take_all (length xs - 1 + 1) xs (omega (arith, some))

-- the bytes of an ended record are its piece and the line feed
pub ended_text : (piece : List ℕ) → record_text (ended_record piece) ≡ piece ++ line_feed ∷ []
ended_text piece = elim (cases_Bool (ends_with_byte 13 piece)) [
  | inl holds ↦
      let body = cond-true (ends_with_byte 13 piece) (take (length piece - 1) piece) piece holds in
      let end = cond-true (ends_with_byte 13 piece) (13 ∷ line_feed ∷ []) (line_feed ∷ []) holds in
      ap (λ ys. ys ++ (ended_record piece).line_end) body ∙ ap (λ ys. take (length piece - 1) piece ++ ys) end
      ∙ sym (append_assoc (take (length piece - 1) piece) (13 ∷ []) (line_feed ∷ [])) ∙ ap (λ ys. ys ++ line_feed ∷ []) (split_end piece holds)
  | inr fails ↦
      let body = cond-false (ends_with_byte 13 piece) (take (length piece - 1) piece) piece fails in
      let end = cond-false (ends_with_byte 13 piece) (13 ∷ line_feed ∷ []) (line_feed ∷ []) fails in
      ap (λ ys. ys ++ (ended_record piece).line_end) body ∙ ap (λ ys. piece ++ ys) end
]

-- the bytes of the last record
last_text : (piece : List ℕ) → flat_map record_text (last_record piece) ≡ piece
last_text [] = refl
last_text (x ∷ xs) = append-nil ((x ∷ xs) ++ []) ∙ append-nil (x ∷ xs)

records_of_pieces : (parts : List (List ℕ)) → 0 < length parts
    → flat_map record_text (map ended_record (all_but_last parts) ++ last_record (last_piece parts)) ≡ join_with_byte line_feed parts
records_of_pieces [] some = absurd (omega (arith, some))
records_of_pieces (part ∷ []) some = last_text part
records_of_pieces (part ∷ another ∷ parts) some =
    let more = records_of_pieces (another ∷ parts) (omega arith) in
    ap (λ ys. record_text (ended_record part) ++ ys) more
    ∙ ap (λ ys. ys ++ join_with_byte line_feed (another ∷ parts)) (ended_text part)
    ∙ append_assoc part (line_feed ∷ []) (join_with_byte line_feed (another ∷ parts))

-- the records, one after another, are the text
pub join_records : (text : List ℕ) → flat_map record_text (records text) ≡ text
join_records text = records_of_pieces (pieces text) (some_piece line_feed Start text) ∙ join_cut line_feed Start text

-- after a comma that ends a field the next one begins
restarts : (p : State) (x : ℕ) → is_end comma p x ≡ true → next p x ≡ Start
restarts Start x ends = ap (next Start) (eqb-true x comma ends)
restarts Plain x ends = ap (next Plain) (eqb-true x comma ends)
restarts Quoted x ends = absurd (true≢false (sym ends))
restarts Closing x ends = ap (next Closing) (eqb-true x comma ends)

onto_append : (x : ℕ) (parts more : List (List ℕ)) → 0 < length parts → onto_first x (parts ++ more) ≡ onto_first x parts ++ more
onto_append x [] more some = absurd (omega (arith, some))
onto_append x (part ∷ parts) more some = refl

append_cut : (p : State) (xs more : List ℕ) → is_quoted (state_after p xs) ≡ false → cut comma p (xs ++ comma ∷ more) ≡ cut comma p xs ++ cut comma Start more
append_cut p [] more closed = cond-true (is_end comma p comma) ([] ∷ cut comma Start more) (onto_first comma (cut comma (next p comma) more)) (end_outside comma p comma closed)
append_cut p (x ∷ xs) more closed = elim (cases_Bool (is_end comma p x)) [
  | inl holds ↦
      let rest = append_cut Start xs more (subst (λ q. is_quoted (state_after q xs) ≡ false) (restarts p x holds) closed) in
      cond-true (is_end comma p x) ([] ∷ cut comma Start (xs ++ comma ∷ more)) (onto_first x (cut comma (next p x) (xs ++ comma ∷ more))) holds
      ∙ ap (λ ps. [] ∷ ps) rest
      ∙ ap (λ ps. ps ++ cut comma Start more) (sym (cond-true (is_end comma p x) ([] ∷ cut comma Start xs) (onto_first x (cut comma (next p x) xs)) holds))
  | inr fails ↦
      let rest = append_cut (next p x) xs more closed in
      cond-false (is_end comma p x) ([] ∷ cut comma Start (xs ++ comma ∷ more)) (onto_first x (cut comma (next p x) (xs ++ comma ∷ more))) fails
      ∙ ap (onto_first x) rest ∙ onto_append x (cut comma (next p x) xs) (cut comma Start more) (some_piece comma (next p x) xs)
      ∙ ap (λ ps. ps ++ cut comma Start more) (sym (cond-false (is_end comma p x) ([] ∷ cut comma Start xs) (onto_first x (cut comma (next p x) xs)) fails))
]

-- fields that are appended to a record are its last ones
pub append_fields : (body more : List ℕ) → is_open body ≡ false → fields (body ++ comma ∷ more) ≡ fields body ++ fields more
append_fields body more closed = append_cut Start body more closed
