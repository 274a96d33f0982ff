-- How the records of a text follow from its parts.
use Rattle.std.proofs.Common.{◌≡◌, ℕ, ◌<◌, true, false, List, [], ◌∷◌, ◌++◌, length, map, refl, sym, ap, ◌∙◌, arith, inl, inr, true≢false, append-nil}
use Rattle.std.specs.List.{onto_first}
use Rattle.std.specs.Io.BufRead.{ends_with_byte, strip_last}
use Rattle.std.proofs.lemmas.Bool.{cases_Bool, cond-true, cond-false}
use Rattle.std.proofs.lemmas.List.{map-append}
use Rattle.cvss_lines.specs.Lines.{all_but_last, last_piece}
use Rattle.cvss_csv.specs.Fields.{cut, is_end, line_feed, next, state_after}
use Rattle.cvss_csv.specs.Records.{Record, ended_record, ended_records, is_open, is_quoted, last_record, pieces}
use Rattle.cvss_csv.specs.private.Cutting.{IsWithin}
use Rattle.cvss_csv.specs.private.Steps.{unended_piece}
use Rattle.cvss_csv.specs.declared.state.State.{State}
use Rattle.cvss_csv.specs.declared.state.State.TheVariants.{Start, Plain, Quoted, Closing}
use Rattle.cvss_csv.proofs.CuttingLemmas.{cut_piece, cut_whole, end_is}
use Rattle.cvss_csv.proofs.JoiningLemmas.{some_piece, split_end}

-- the state after one text and another
pub state_append : (p : State) (xs ys : List ℕ) → state_after p (xs ++ ys) ≡ state_after (state_after p xs) ys
state_append p [] ys = refl
state_append p (x ∷ xs) ys = state_append (next p x) xs ys

-- a line feed outside quotes begins a record
pub feed_restarts : (p : State) → is_end line_feed p line_feed ≡ true → next p line_feed ≡ Start
feed_restarts Start ends = refl
feed_restarts Plain ends = refl
feed_restarts Quoted ends = absurd (true≢false (sym ends))
feed_restarts Closing ends = refl

-- ---- the pieces of one text and another

-- pieces of which the first begins with this
abbrev pub onto_front : List ℕ → List (List ℕ) → List (List ℕ)
onto_front piece [] = []
onto_front piece (first ∷ more) = (piece ++ first) ∷ more

onto_nothing : (ps : List (List ℕ)) → onto_front [] ps ≡ ps
onto_nothing [] = refl
onto_nothing (p ∷ ps) = refl

some_front : (piece : List ℕ) (ps : List (List ℕ)) → 0 < length ps → 0 < length (onto_front piece ps)
some_front piece [] some = absurd (omega (arith, some))
some_front piece (p ∷ ps) some = omega arith

-- these pieces, of which the last is joined with the first of those
abbrev pub join_pieces : List (List ℕ) → List (List ℕ) → List (List ℕ)
join_pieces ps qs = all_but_last ps ++ onto_front (last_piece ps) qs

join_empty : (ps qs : List (List ℕ)) → 0 < length ps → join_pieces ([] ∷ ps) qs ≡ [] ∷ join_pieces ps qs
join_empty [] qs some = absurd (omega (arith, some))
join_empty (p ∷ ps) qs some = refl

join_onto_first : (x : ℕ) (ps qs : List (List ℕ)) → 0 < length ps → 0 < length qs → join_pieces (onto_first x ps) qs ≡ onto_first x (join_pieces ps qs)
join_onto_first x [] qs some more = absurd (omega (arith, some))
join_onto_first x (p ∷ []) [] some more = absurd (omega (arith, more))
join_onto_first x (p ∷ []) (q ∷ qs) some more = refl
join_onto_first x (p ∷ another ∷ ps) qs some more = refl

cut_append : (p : State) (xs ys : List ℕ) → cut line_feed p (xs ++ ys) ≡ join_pieces (cut line_feed p xs) (cut line_feed (state_after p xs) ys)
cut_append p [] ys = sym (onto_nothing (cut line_feed p ys))
cut_append p (x ∷ xs) ys =
    let after = cut line_feed (state_after (next p x) xs) ys in
    elim (cases_Bool (is_end line_feed p x)) [
      | inl holds ↦
          let same = end_is line_feed p x holds in
          let starts : next p x ≡ Start = ap (next p) same ∙ feed_restarts p (ap (is_end line_feed p) (sym same) ∙ holds) in
          cond-true (is_end line_feed p x) ([] ∷ cut line_feed Start (xs ++ ys)) (onto_first x (cut line_feed (next p x) (xs ++ ys))) holds
          ∙ ap (λ ps. [] ∷ ps) (cut_append Start xs ys)
          ∙ ap (λ q. [] ∷ join_pieces (cut line_feed Start xs) (cut line_feed (state_after q xs) ys)) (sym starts)
          ∙ sym (join_empty (cut line_feed Start xs) after (some_piece line_feed Start xs))
          ∙ ap (λ ps. join_pieces ps after) (sym (cond-true (is_end line_feed p x) ([] ∷ cut line_feed Start xs) (onto_first x (cut line_feed (next p x) xs)) holds))
      | inr fails ↦
          cond-false (is_end line_feed p x) ([] ∷ cut line_feed Start (xs ++ ys)) (onto_first x (cut line_feed (next p x) (xs ++ ys))) fails
          ∙ ap (onto_first x) (cut_append (next p x) xs ys)
          ∙ sym (join_onto_first x (cut line_feed (next p x) xs) after (some_piece line_feed (next p x) xs) (some_piece line_feed (state_after (next p x) xs) ys))
          ∙ ap (λ ps. join_pieces ps after) (sym (cond-false (is_end line_feed p x) ([] ∷ cut line_feed Start xs) (onto_first x (cut line_feed (next p x) xs)) fails))
    ]

-- ---- what is ended, and what is not

all_but_last-append : (ps qs : List (List ℕ)) → 0 < length qs → all_but_last (ps ++ qs) ≡ ps ++ all_but_last qs
all_but_last-append [] qs some = refl
all_but_last-append (p ∷ []) [] some = absurd (omega (arith, some))
all_but_last-append (p ∷ []) (q ∷ qs) some = refl
all_but_last-append (p ∷ another ∷ ps) qs some = ap (λ more. p ∷ more) (all_but_last-append (another ∷ ps) qs some)

last_piece-append : (ps qs : List (List ℕ)) → 0 < length qs → last_piece (ps ++ qs) ≡ last_piece qs
last_piece-append [] qs some = refl
last_piece-append (p ∷ []) [] some = absurd (omega (arith, some))
last_piece-append (p ∷ []) (q ∷ qs) some = refl
last_piece-append (p ∷ another ∷ ps) qs some = last_piece-append (another ∷ ps) qs some

after_first : (p : List ℕ) (ps : List (List ℕ)) → 0 < length ps → (all_but_last (p ∷ ps) ≡ p ∷ all_but_last ps) × (last_piece (p ∷ ps) ≡ last_piece ps)
after_first p [] some = absurd (omega (arith, some))
after_first p (another ∷ ps) some = (refl, refl)

-- these records are ended in a text, and this follows them
abbrev pub Cut : List ℕ → List Record → List ℕ → Type 0
Cut text ended rest = (ended_records text ≡ ended) × (unended_piece text ≡ rest)

module _ (read : List ℕ) (p last : State) (state_is : state_after Start read ≡ p) where
  -- a record that ends after what was read
  pub Cut-more : (piece rest : List ℕ) → IsWithin line_feed p piece last → is_end line_feed last line_feed ≡ true
      → Cut (read ++ (piece ++ line_feed ∷ rest)) (ended_records read ++ ended_record (unended_piece read ++ piece) ∷ ended_records rest) (unended_piece rest)
  Cut-more piece rest within ends =
      let front = all_but_last (pieces read) in
      let joined = unended_piece read ++ piece in
      let own : pieces (read ++ (piece ++ line_feed ∷ rest)) ≡ front ++ joined ∷ pieces rest =
      cut_append Start read (piece ++ line_feed ∷ rest)
      ∙ ap (λ qs. join_pieces (pieces read) qs) (ap (λ q. cut line_feed q (piece ++ line_feed ∷ rest)) state_is ∙ cut_piece line_feed p last piece rest within ends) in
      let more = after_first joined (pieces rest) (some_piece line_feed Start rest) in (
        ap (λ ps. map ended_record (all_but_last ps)) own
            ∙ ap (map ended_record) (all_but_last-append front (joined ∷ pieces rest) (omega arith) ∙ ap (λ ps. front ++ ps) more.0)
            ∙ map-append ended_record front (joined ∷ all_but_last (pieces rest)),
        ap last_piece own ∙ last_piece-append front (joined ∷ pieces rest) (omega arith) ∙ more.1,
      )

  -- bytes after what was read in which no record ends
  pub Cut-rest : (rest : List ℕ) → IsWithin line_feed p rest last → Cut (read ++ rest) (ended_records read) (unended_piece read ++ rest)
  Cut-rest rest within =
      let front = all_but_last (pieces read) in
      let joined = unended_piece read ++ rest in
      let own : pieces (read ++ rest) ≡ front ++ joined ∷ [] =
      cut_append Start read rest
      ∙ ap (λ qs. join_pieces (pieces read) qs) (ap (λ q. cut line_feed q rest) state_is ∙ cut_whole line_feed p last rest within) in (
        ap (λ ps. map ended_record (all_but_last ps)) own ∙ ap (map ended_record) (all_but_last-append front (joined ∷ []) (omega arith) ∙ append-nil front),
        ap last_piece own ∙ last_piece-append front (joined ∷ []) (omega arith),
      )

-- ---- the records that are answered

-- the end of the text ends a record where there are bytes after the last line feed
pub last_record-some : (bytes : List ℕ) → 0 < length bytes → last_record bytes ≡ record { body = bytes; line_end = [] } ∷ []
last_record-some [] some = absurd (omega (arith, some))
last_record-some (byte ∷ bytes) some = refl

quoted_stays : (p : State) → is_quoted (next p 13) ≡ false → is_quoted p ≡ false
quoted_stays Start closed = refl
quoted_stays Plain closed = refl
quoted_stays Quoted closed = absurd (true≢false closed)
quoted_stays Closing closed = refl

-- a record that a line feed ends is closed
pub ended_is_closed : (piece : List ℕ) → is_open piece ≡ false → is_open (ended_record piece).body ≡ false
ended_is_closed piece closed = elim (cases_Bool (ends_with_byte 13 piece)) [
  | inl holds ↦
      let body = strip_last 13 piece in
      let split : body ++ 13 ∷ [] ≡ piece = ap (λ ys. ys ++ 13 ∷ []) (cond-true (ends_with_byte 13 piece) _ piece holds) ∙ split_end piece holds in
      quoted_stays (state_after Start body) (ap is_quoted (sym (state_append Start body (13 ∷ []))) ∙ ap is_open split ∙ closed)
  | inr fails ↦ ap is_open (cond-false (ends_with_byte 13 piece) _ piece fails) ∙ closed
]

-- a line feed ends a piece only outside quotes
pub end_is_outside : (p : State) → is_end line_feed p line_feed ≡ true → is_quoted p ≡ false
end_is_outside Start ends = refl
end_is_outside Plain ends = refl
end_is_outside Quoted ends = absurd (true≢false (sym ends))
end_is_outside Closing ends = refl

-- the records that are ended in a text are so in more of it
pub ended_before : (xs ys : List ℕ) → (more : List Record) × (ended_records (xs ++ ys) ≡ ended_records xs ++ more)
ended_before xs ys =
    let after = cut line_feed (state_after Start xs) ys in
    let front = all_but_last (pieces xs) in
    let back = onto_front (last_piece (pieces xs)) after in (
      map ended_record (all_but_last back),
      ap (λ ps. map ended_record (all_but_last ps)) (cut_append Start xs ys)
          ∙ ap (map ended_record) (all_but_last-append front back (some_front (last_piece (pieces xs)) after (some_piece line_feed (state_after Start xs) ys)))
          ∙ map-append ended_record front (all_but_last back),
    )
