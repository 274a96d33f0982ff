-- How the lines of an input follow from its parts.
use Rattle.std.proofs.Common.{◌≡◌, ◌≢◌, ℕ, suc, add-one, ◌+◌, ◌-◌, take, drop, length-take, get_or-take, ◌<◌, false, List, [], ◌∷◌, ◌++◌, length, map, refl, sym, ap, ◌∙◌, subst, append_assoc, append-nil, slice_index_or, All, length-append, arith, inl, inr}
use Rattle.std.specs.List.{slice_split}
use Rattle.std.proofs.lemmas.Grind.{common_steps}
use Rattle.std.proofs.lemmas.List.Elements.{All-append, All-from_get_or, All-push, All-nil}
use Rattle.std.proofs.Math.Seq.{split_at}
use Rattle.std.proofs.lemmas.List.{take_rest}
use Rattle.std.proofs.lemmas.List.Splits.{slice_split_none, slice_split_at, length-slice_split}
use Rattle.std.proofs.lemmas.Bool.Decides.{eqb_tells}
use Rattle.cvss_lines.specs.Lines.{is_line_end, line_text, all_but_last, last_piece, ended_lines, unended_piece, last_line, lines}
use Rattle.cvss_lines.specs.Search.{IsFirstOf}
use Rattle.cvss_lines.specs.private.Steps.{NoLineEnd}

-- no byte passes the test where no line ends
none_pass : (bytes : List ℕ) → NoLineEnd bytes → All (λ byte. is_line_end byte ≡ false) bytes
none_pass bytes none k d below =
    let differs : slice_index_or bytes k d ≢ 10 = none k d below in grind (arith, common_steps)

-- what holds of bytes without a line end, and of a line before bytes of which it holds, holds of all
by_lines : (P : List ℕ → Type 0)
    → ((bytes : List ℕ) → NoLineEnd bytes → P bytes)
    → ((piece after : List ℕ) → NoLineEnd piece → P after → P (piece ++ 10 ∷ after))
    → (bytes : List ℕ) → P bytes
by_lines P last ended bytes = from [] bytes (All-nil _) where
  from : (front rest : List ℕ) → NoLineEnd front → P (front ++ rest)
  from front [] none = subst P (sym (append-nil front)) (last front none)
  from front (byte ∷ rest) none = elim (eqb_tells byte 10) [
    | inl same ↦ subst (λ b. P (front ++ b ∷ rest)) (sym same.1) (ended front rest none (from [] rest (All-nil _)))
    | inr differs ↦ subst P (append_assoc front (byte ∷ []) rest) (from (front ++ byte ∷ []) rest (All-push (λ b. b ≢ 10) front byte none differs.1))
  ]

-- no line ends in bytes whose first line end is said to be at their length
pub none_ends : (bytes : List ℕ) (index : ℕ) → IsFirstOf 10 10 bytes index → index ≡ length bytes → NoLineEnd bytes
none_ends bytes index is all = All-from_get_or (λ byte. byte ≢ 10) bytes 0 (λ k within. is.without_one k (omega arith))

-- a line end within them ends the first line
pub first_ends : (bytes : List ℕ) (index : ℕ) → IsFirstOf 10 10 bytes index → index < length bytes
    → NoLineEnd (take index bytes) × (bytes ≡ take index bytes ++ 10 ∷ take (length bytes - (index + 1)) (drop (index + 1) bytes))
first_ends bytes index is below =
    let ends = split_at bytes index 0 below ∙ ap (λ byte. take index bytes ++ byte ∷ drop (suc index) bytes) (elim (is.found below) [ inl ends ↦ ends | inr ends ↦ ends ]) in (
      All-from_get_or (λ byte. byte ≢ 10) (take index bytes) 0 (λ k within.
          let before : k < index = omega (arith, within, length-take index bytes) in
          subst (λ byte. byte ≢ 10) (sym (get_or-take index bytes k 0 before)) (is.without_one k before)),
      ends ∙ ap (λ rest. take index bytes ++ 10 ∷ rest) (ap (λ n. drop n bytes) (sym (add-one index)) ∙ sym (take_rest bytes (index + 1))),
    )

-- these lines are ended in the bytes, and this follows them
abbrev pub Cut : List ℕ → List (List ℕ) → List ℕ → Type 0
Cut bytes ls rest = (ended_lines bytes ≡ ls) × (unended_piece bytes ≡ rest)

-- the last of a list is the last of what follows its first, where there is more
after_the_first : (piece : List ℕ) (pieces : List (List ℕ)) → 0 < length pieces
    → (all_but_last (piece ∷ pieces) ≡ piece ∷ all_but_last pieces) × (last_piece (piece ∷ pieces) ≡ last_piece pieces)
after_the_first piece [] some = absurd (omega arith)
after_the_first piece (next ∷ more) some = (refl, refl)

-- bytes without a line end
pub Cut-none : (bytes : List ℕ) → NoLineEnd bytes → Cut bytes [] bytes
Cut-none bytes none =
    let pieces = slice_split_none is_line_end bytes (none_pass bytes none) in
    (ap (λ p. map line_text (all_but_last p)) pieces, ap last_piece pieces)

-- a line, and what follows it
pub Cut-line : (piece after : List ℕ) → NoLineEnd piece
    → Cut (piece ++ 10 ∷ after) (line_text piece ∷ ended_lines after) (unended_piece after)
Cut-line piece after none =
    let pieces = slice_split_at is_line_end piece 10 after (none_pass piece none) refl in
    let more = after_the_first piece (slice_split is_line_end after) (omega (arith, length-slice_split is_line_end after)) in
    (ap (λ p. map line_text (all_but_last p)) pieces ∙ ap (map line_text) more.0, ap last_piece pieces ∙ more.1)

-- a line that ends after what was read
pub Cut-more : (read piece after : List ℕ) → NoLineEnd piece
    → Cut (read ++ (piece ++ 10 ∷ after)) (ended_lines read ++ line_text (unended_piece read ++ piece) ∷ ended_lines after) (unended_piece after)
Cut-more read piece after none = by_lines
    (λ read. Cut (read ++ (piece ++ 10 ∷ after)) (ended_lines read ++ line_text (unended_piece read ++ piece) ∷ ended_lines after) (unended_piece after))
    (λ bytes ends.
    let own = Cut-none bytes ends in
    let all = Cut-line (bytes ++ piece) after (All-append (λ byte. byte ≢ 10) bytes piece ends none) in
    let seam = append_assoc bytes piece (10 ∷ after) in
    (cc, cc))
    (λ first more ends rest.
    let own = Cut-line first more ends in
    let all = Cut-line first (more ++ (piece ++ 10 ∷ after)) ends in
    let seam = append_assoc first (10 ∷ more) (piece ++ 10 ∷ after) in
    (cc, cc))
    read

-- bytes without a line end after what was read
pub Cut-rest : (read rest : List ℕ) → NoLineEnd rest → Cut (read ++ rest) (ended_lines read) (unended_piece read ++ rest)
Cut-rest read rest none = by_lines (λ read. Cut (read ++ rest) (ended_lines read) (unended_piece read ++ rest))
    (λ bytes ends.
    let own = Cut-none bytes ends in
    let all = Cut-none (bytes ++ rest) (All-append (λ byte. byte ≢ 10) bytes rest ends none) in
    (cc, cc))
    (λ first more ends after.
    let own = Cut-line first more ends in
    let all = Cut-line first (more ++ rest) ends in
    let seam = append_assoc first (10 ∷ more) rest in
    (cc, cc))
    read

-- the end of the input ends a line where there are bytes after the last line end
pub last_line-some : (bytes : List ℕ) → 0 < length bytes → last_line bytes ≡ line_text bytes ∷ []
last_line-some [] some = absurd (omega arith)
last_line-some (byte ∷ bytes) some = refl

-- bytes without a line end are one line where there are some
pub one_line : (bytes : List ℕ) → NoLineEnd bytes → 0 < length bytes → lines bytes ≡ line_text bytes ∷ []
one_line bytes none some =
    let own = Cut-none bytes none in
    ap (λ ls. ls ++ last_line (unended_piece bytes)) own.0 ∙ ap last_line own.1 ∙ last_line-some bytes some

-- a line comes off an input, and the lines after it are left
pub line_off : (input piece after : List ℕ) → NoLineEnd piece → input ≡ piece ++ 10 ∷ after
    → (lines input ≡ line_text piece ∷ lines after) × (length after < length input)
line_off input piece after none is =
    let cut = Cut-line piece after none in
    (cc, omega (arith, ap length is, length-append piece (10 ∷ after)))
