-- How a text is cut at the delimiters that are outside quotes.
use Rattle.std.proofs.Common.{◌≡◌, ◌≢◌, ℕ, zero, suc, ◌+◌, ◌-◌, ◌<◌, ◌≤◌, ◌||◌, true, false, eqb, List, [], ◌∷◌, ◌++◌, length, take, drop, get_or, refl, sym, ap, ◌∙◌, subst, arith, true≢false, take-add}
use Rattle.std.specs.List.{onto_first}
use Rattle.std.proofs.Math.Seq.{split_at}
use Rattle.std.proofs.lemmas.Bool.{cond-true, cond-false, cond_both, eqb-true, ne_eqb, or_from, or_parts}
use Rattle.std.proofs.lemmas.List.{take_all, take_more}
use Rattle.cvss_lines.specs.Search.{IsFirstOf}
use Rattle.cvss_csv.specs.Fields.{after_unquoted, comma, cut, is_end, line_feed, next, state_after, quote}
use Rattle.cvss_csv.specs.Records.{is_quoted}
use Rattle.cvss_csv.specs.declared.state.State.{State}
use Rattle.cvss_csv.specs.declared.state.State.TheVariants.{Start, Plain, Quoted, Closing}
use Rattle.cvss_csv.specs.private.Cutting.{IsFirstPiece, IsWithin, has_end}

-- ---- bytes within a piece

-- bytes within a piece, and more of them
pub within_append : (d : ℕ) (p q r : State) (xs ys : List ℕ) → IsWithin d p xs q → IsWithin d q ys r → IsWithin d p (xs ++ ys) r
within_append d p q r [] ys first more = subst (λ start. IsWithin d start ys r) (sym first.leads) more
within_append d p q r (x ∷ xs) ys first more =
    let parts = or_parts (is_end d p x) (has_end d (next p x) xs) first.none in
    let all = within_append d (next p x) q r xs ys (record { none = parts.1; leads = first.leads }) more in
    record { none = or_from (is_end d p x) (has_end d (next p x) (xs ++ ys)) parts.0 all.none; leads = all.leads }

-- no bytes
pub within_none : (d : ℕ) (p : State) → IsWithin d p [] p
within_none d p = record { none = refl; leads = refl }

-- one byte
within_one : (d : ℕ) (p : State) (x : ℕ) → is_end d p x ≡ false → IsWithin d p (x ∷ []) (next p x)
within_one d p x none = record { none = or_from (is_end d p x) false none refl; leads = refl }

-- only the delimiter ends a piece
pub end_is : (d : ℕ) (p : State) (x : ℕ) → is_end d p x ≡ true → x ≡ d
end_is d Start x ends = eqb-true x d ends
end_is d Plain x ends = eqb-true x d ends
end_is d Quoted x ends = absurd (true≢false (sym ends))
end_is d Closing x ends = eqb-true x d ends

module _ (d : ℕ) (p : State) (xs : List ℕ) (at : ℕ) where
  -- some bytes more of a text
  pub within_run : (q r : State) (run : ℕ) → IsWithin d p (take at xs) q → IsWithin d q (take run (drop at xs)) r → IsWithin d p (take (at + run) xs) r
  within_run q r run before more =
      subst (λ ys. IsWithin d p ys r) (sym (take-add at run xs)) (within_append d p q r (take at xs) (take run (drop at xs)) before more)

  -- the next byte of a text
  pub within_byte : (q : State) (x : ℕ) → IsWithin d p (take at xs) q → at < length xs → x ≡ get_or xs at 0 → is_end d q x ≡ false → IsWithin d p (take (at + 1) xs) (next q x)
  within_byte q x before below is none =
      subst (λ ys. IsWithin d p ys (next q x)) (sym (take_more xs at 0 below ∙ ap (λ b. take at xs ++ b ∷ []) (sym is)))
      (within_append d p q (next q x) (take at xs) (x ∷ []) before (within_one d q x none))

  -- all bytes
  pub within_all : (q : State) → IsWithin d p (take at xs) q → length xs ≤ at → IsWithin d p xs q
  within_all q before past = subst (λ ys. IsWithin d p ys q) (take_all at xs past) before

  -- a delimiter ends the piece
  pub first_piece : (q : State) (x : ℕ) → IsWithin d p (take at xs) q → at < length xs → x ≡ get_or xs at 0 → is_end d q x ≡ true → IsFirstPiece d p xs (take at xs) (drop (at + 1) xs)
  first_piece q x before below is ends =
      let same = end_is d q x ends in
      let next_at : suc at ≡ at + 1 = omega arith in
      record {
        last = q;
        within = before;
        ends = ap (is_end d q) (sym same) ∙ ends;
        is = split_at xs at 0 below ∙ ap (λ b. take at xs ++ b ∷ drop (suc at) xs) (sym is ∙ same) ∙ ap (λ n. take at xs ++ d ∷ drop n xs) next_at;
      }

-- ---- bytes over which no quote and no delimiter is

quoted_run : (d : ℕ) (xs : List ℕ) (n : ℕ) → ((k : ℕ) → k < n → get_or xs k 0 ≢ quote) → IsWithin d Quoted (take n xs) Quoted
quoted_run d xs zero none = within_none d Quoted
quoted_run d [] (suc n) none = within_none d Quoted
quoted_run d (x ∷ xs) (suc n) none =
    let stays : next Quoted x ≡ Quoted = cond-false (eqb x quote) Closing Quoted (ne_eqb x quote (none 0 (omega arith))) in
    let more = quoted_run d xs n (λ k below. none (suc k) (omega (arith, below))) in
    record { none = ap (λ p. has_end d p (take n xs)) stays ∙ more.none; leads = ap (λ p. state_after p (take n xs)) stays ∙ more.leads }

-- between quotes, up to the next quote
pub quoted_passes : (d : ℕ) (p : State) (xs : List ℕ) (n : ℕ) → is_quoted p ≡ true → IsFirstOf quote quote xs n → IsWithin d p (take n xs) p
quoted_passes d Start xs n inside first = absurd (true≢false (sym inside))
quoted_passes d Plain xs n inside first = absurd (true≢false (sym inside))
quoted_passes d Quoted xs n inside first = quoted_run d xs n first.without_one
quoted_passes d Closing xs n inside first = absurd (true≢false (sym inside))

-- outside quotes, a byte ends the piece if it is the delimiter
pub end_outside : (d : ℕ) (p : State) (x : ℕ) → is_quoted p ≡ false → is_end d p x ≡ eqb x d
end_outside d Start x outside = refl
end_outside d Plain x outside = refl
end_outside d Quoted x outside = absurd (true≢false outside)
end_outside d Closing x outside = refl

next_outside : (p : State) (x : ℕ) → is_quoted p ≡ false → x ≢ quote → next p x ≡ after_unquoted x
next_outside Start x outside other = cond-false (eqb x quote) Quoted (after_unquoted x) (ne_eqb x quote other)
next_outside Plain x outside other = refl
next_outside Quoted x outside other = absurd (true≢false outside)
next_outside Closing x outside other = cond-false (eqb x quote) Quoted (after_unquoted x) (ne_eqb x quote other)

after_unquoted_outside : (x : ℕ) → is_quoted (after_unquoted x) ≡ false
after_unquoted_outside x = cond_both (eqb x comma || eqb x line_feed) Start Plain (λ p. is_quoted p ≡ false) (λ _. refl) (λ _. refl)

-- the state after bytes that are no quotes
abbrev pub quiet_state : State → List ℕ → State
quiet_state p [] = p
quiet_state p (x ∷ xs) = quiet_state (after_unquoted x) xs

pub outside_run : (d : ℕ) (p : State) (xs : List ℕ) (n : ℕ) → is_quoted p ≡ false → ((k : ℕ) → k < n → get_or xs k 0 ≢ quote)
    → ((k : ℕ) → k < n → get_or xs k 0 ≢ d) → IsWithin d p (take n xs) (quiet_state p (take n xs))
outside_run d p xs zero outside no_quote no_end = within_none d p
outside_run d p [] (suc n) outside no_quote no_end = within_none d p
outside_run d p (x ∷ xs) (suc n) outside no_quote no_end =
    let goes = next_outside p x outside (no_quote 0 (omega arith)) in
    let stays : is_end d p x ≡ false = end_outside d p x outside ∙ ne_eqb x d (no_end 0 (omega arith)) in
    let more = outside_run d (after_unquoted x) xs n (after_unquoted_outside x) (λ k below. no_quote (suc k) (omega (arith, below))) (λ k below. no_end (suc k) (omega (arith, below))) in
    record {
      none = or_from (is_end d p x) (has_end d (next p x) (take n xs)) stays (ap (λ q. has_end d q (take n xs)) goes ∙ more.none);
      leads = ap (λ q. state_after q (take n xs)) goes ∙ more.leads;
    }

last_quiet : (p : State) (xs : List ℕ) (n : ℕ) → n < length xs → quiet_state p (take (suc n) xs) ≡ after_unquoted (get_or xs n 0)
last_quiet p [] n below = absurd (omega (arith, below))
last_quiet p (x ∷ xs) zero below = refl
last_quiet p (x ∷ xs) (suc n) below = last_quiet (after_unquoted x) xs n (omega (arith, below))

-- outside quotes, up to the next quote or delimiter, where there are bytes before it
pub outside_passes : (d : ℕ) (p : State) (xs : List ℕ) (n x : ℕ) → is_quoted p ≡ false → IsFirstOf quote d xs n → n ≢ 0 → x ≡ get_or xs (n - 1) 0 → IsWithin d p (take n xs) (after_unquoted x)
outside_passes d p xs n x outside first some is =
    let same : n ≡ suc (n - 1) = omega (arith, some) in
    subst (IsWithin d p (take n xs))
    (ap (λ k. quiet_state p (take k xs)) same ∙ last_quiet p xs (n - 1) (omega (arith, some, first.within)) ∙ ap after_unquoted (sym is))
    (outside_run d p xs n outside first.without_one first.without_other)

-- ---- the pieces of a text

-- a piece, and those after the delimiter that ends it
pub cut_piece : (d : ℕ) (p last : State) (piece rest : List ℕ) → IsWithin d p piece last → is_end d last d ≡ true → cut d p (piece ++ d ∷ rest) ≡ piece ∷ cut d Start rest
cut_piece d p last [] rest within ends =
    cond-true (is_end d p d) ([] ∷ cut d Start rest) (onto_first d (cut d (next p d) rest)) (ap (λ q. is_end d q d) within.leads ∙ ends)
cut_piece d p last (x ∷ piece) rest within ends =
    let parts = or_parts (is_end d p x) (has_end d (next p x) piece) within.none in
    cond-false (is_end d p x) ([] ∷ cut d Start (piece ++ d ∷ rest)) (onto_first x (cut d (next p x) (piece ++ d ∷ rest))) parts.0
    ∙ ap (onto_first x) (cut_piece d (next p x) last piece rest (record { none = parts.1; leads = within.leads }) ends)

-- a piece that nothing ends
pub cut_whole : (d : ℕ) (p last : State) (piece : List ℕ) → IsWithin d p piece last → cut d p piece ≡ piece ∷ []
cut_whole d p last [] within = refl
cut_whole d p last (x ∷ piece) within =
    let parts = or_parts (is_end d p x) (has_end d (next p x) piece) within.none in
    cond-false (is_end d p x) ([] ∷ cut d Start piece) (onto_first x (cut d (next p x) piece)) parts.0
    ∙ ap (onto_first x) (cut_whole d (next p x) last piece (record { none = parts.1; leads = within.leads }))

-- the first piece of bytes, as it is cut
pub cut_first_piece : (d : ℕ) (p : State) (bytes piece following : List ℕ) → IsFirstPiece d p bytes piece following → cut d p bytes ≡ piece ∷ cut d Start following
cut_first_piece d p bytes piece following first = ap (cut d p) first.is ∙ cut_piece d p first.last piece following first.within first.ends
