-- What is seen of an input, by the first bytes of it that are read.
use native.Mathlib.Omega.{arith}
use Rattle.std.proofs.Common.{◌≡◌, ◌≤◌, ◌<◌, ◌⊎◌, inl, inr, ℕ, ◌+◌, ◌-◌, ◌==◌, ◌&&◌, ◌||◌, Bool, true, false, List, [], ◌∷◌, ◌++◌, Option, Some, None, refl, ap, sym, ◌∙◌, drop, take, length, slice_set, append-nil, subst, IfSome, IsErr, MatchResult, Result, Ok, Err}
use Rattle.std.specs.Option.{option_map}
use Rattle.std.specs.List.{copy_within}
use Rattle.std.specs.Io.KnownBytes.{Consumes, IsAtEnd, Keeps, prepend_known}
use Rattle.std.specs.Io.{ReadsAtMost}
use Rattle.std.specs.Io.KnownBytes.{ReadConsumes}
use Rattle.std.proofs.KnownBytes.{Consumes-kept, Consumes-trans}
use Rattle.std.proofs.Math.Seq.{take-append-add, take-paste}
use Rattle.std.proofs.lemmas.Bool.Decides.{nat_tests}
use Rattle.std.proofs.lemmas.List.{drop-take, length-drop, length-take-le, take-append-le}
use Rattle.std.proofs.lemmas.Slice.{take-put_mid_below}
use borrow.Rule.Slice.PartMut.{put_mid}
use Rattle.cvss_frame.specs.Marks.{begins_utf16, begins_utf8, held, seen, unread_at}
use Rattle.cvss_frame.specs.private.Filling.{IsDecided, has_begun, is_open}
use Rattle.cvss_frame.specs.declared.watching.Start.{Start}
use Rattle.cvss_frame.specs.declared.watching.Start.TheVariants.{Unread, One, Two, Begun, Utf16}

pub put_one : (buf : List ℕ) (a : ℕ) → 3 ≤ length buf → take 1 (slice_set buf 0 a) ≡ a ∷ []
put_one [] a room = absurd (omega (arith, room))
put_one (x ∷ buf) a room = refl

pub put_two : (buf : List ℕ) (a b : ℕ) → 3 ≤ length buf → take 2 (slice_set (slice_set buf 0 a) 1 b) ≡ a ∷ b ∷ []
put_two [] a b room = absurd (omega (arith, room))
put_two (x ∷ []) a b room = absurd (omega (arith, room))
put_two (x ∷ y ∷ buf) a b room = refl

-- nothing that follows makes a mark of these bytes
abbrev pub Settled : List ℕ → List ℕ → Type 0
Settled head rest = (is_open head ≡ false) ⊎ (rest ≡ [])

no_more : (head rest : List ℕ) → rest ≡ [] → head ++ rest ≡ head
no_more head rest is = ap (λ more. head ++ more) is ∙ append-nil head

one_of_utf16 : (a b : ℕ) → ((a == 0xef) || ((a == 0xfe) || (a == 0xff))) ≡ false
    → (((a == 0xfe) && (b == 0xff)) || ((a == 0xff) && (b == 0xfe))) ≡ false
one_of_utf16 a b none = grind (arith, nat_tests, none)

utf16_here : (head rest : List ℕ) → Settled head rest → begins_utf16 (head ++ rest) ≡ begins_utf16 head
utf16_here head rest (inr is) = ap begins_utf16 (no_more head rest is)
utf16_here [] rest (inl unsure) = absurd (let shut = unsure in cc)
utf16_here (a ∷ []) [] (inl unsure) = refl
utf16_here (a ∷ []) (b ∷ rest) (inl unsure) = one_of_utf16 a b unsure
utf16_here (a ∷ b ∷ head) rest (inl unsure) = refl

one_of_utf8 : (a : ℕ) (more : Bool) → ((a == 0xef) || ((a == 0xfe) || (a == 0xff))) ≡ false
    → ((a == 0xef) && more) ≡ false
one_of_utf8 a more none = grind (arith, nat_tests, none)

two_of_utf8 : (first second third : Bool) → (first && second) ≡ false → (first && (second && third)) ≡ false
two_of_utf8 true true third none = absurd (let shut = none in cc)
two_of_utf8 true false third none = refl
two_of_utf8 false second third none = refl

utf8_here : (head rest : List ℕ) → Settled head rest → begins_utf8 (head ++ rest) ≡ begins_utf8 head
utf8_here head rest (inr is) = ap begins_utf8 (no_more head rest is)
utf8_here [] rest (inl unsure) = absurd (let shut = unsure in cc)
utf8_here (a ∷ []) [] (inl unsure) = refl
utf8_here (a ∷ []) (b ∷ []) (inl unsure) = refl
utf8_here (a ∷ []) (b ∷ c ∷ rest) (inl unsure) = one_of_utf8 a ((b == 0xbb) && (c == 0xbf)) unsure
utf8_here (a ∷ b ∷ []) [] (inl unsure) = refl
utf8_here (a ∷ b ∷ []) (c ∷ rest) (inl unsure) = two_of_utf8 (a == 0xef) (b == 0xbb) (c == 0xbf) unsure
utf8_here (a ∷ b ∷ c ∷ head) rest (inl unsure) = refl

-- nothing is seen of UTF-16
seen_utf16 : (head rest : List ℕ) → begins_utf16 head ≡ true → seen (head ++ rest) ≡ []
seen_utf16 [] rest is = absurd (let wrong = is in cc)
seen_utf16 (a ∷ []) rest is = absurd (let wrong = is in cc)
seen_utf16 (a ∷ b ∷ head) rest is = rw is refl

-- all is seen where no mark begins it
seen_plain : (head rest : List ℕ) → Settled head rest → begins_utf16 head ≡ false → begins_utf8 head ≡ false
    → seen (head ++ rest) ≡ head ++ rest
seen_plain head rest settled not16 not8 = rw (utf16_here head rest settled ∙ not16, utf8_here head rest settled ∙ not8) refl

-- and what follows the mark where one does
seen_marked : (head rest : List ℕ) → begins_utf16 head ≡ false → begins_utf8 head ≡ true
    → seen (head ++ rest) ≡ drop 3 head ++ rest
seen_marked [] rest not16 is = absurd (let wrong = is in cc)
seen_marked (a ∷ []) rest not16 is = absurd (let wrong = is in cc)
seen_marked (a ∷ b ∷ []) rest not16 is = absurd (let wrong = is in cc)
seen_marked (a ∷ b ∷ c ∷ head) rest not16 is = rw (not16, is) refl

settled : (head rest : List ℕ) → IsDecided head (Some rest) → Settled head rest
settled head rest decided = decided

-- an input that begins with these bytes, of which more may be left
module _ (head : List ℕ) where
  pub begun_utf16 : (before left : Option (List ℕ)) → Consumes before left head → begins_utf16 head ≡ true
      → Keeps (option_map seen before) (option_map (λ rest. []) left)
  begun_utf16 None left consumes is = tt
  begun_utf16 (Some bytes) None consumes is = consumes
  begun_utf16 (Some bytes) (Some rest) consumes is = sym (ap seen consumes ∙ seen_utf16 head rest is)

  pub begun_plain : (before left : Option (List ℕ)) → Consumes before left head → IsDecided head left
      → begins_utf16 head ≡ false → begins_utf8 head ≡ false → Consumes (option_map seen before) left head
  begun_plain None left consumes decided not16 not8 = tt
  begun_plain (Some bytes) None consumes decided not16 not8 = consumes
  begun_plain (Some bytes) (Some rest) consumes decided not16 not8 = ap seen consumes ∙ seen_plain head rest decided not16 not8

  pub begun_marked : (before left : Option (List ℕ)) → Consumes before left head
      → begins_utf16 head ≡ false → begins_utf8 head ≡ true → Consumes (option_map seen before) left (drop 3 head)
  begun_marked None left consumes not16 is = tt
  begun_marked (Some bytes) None consumes not16 is = consumes
  begun_marked (Some bytes) (Some rest) consumes not16 is = ap seen consumes ∙ seen_marked head rest not16 is

-- what is moved over the mark
pub moved : (buf : List ℕ) (count : ℕ) → 3 ≤ count → count ≤ length buf
    → take (count - 3) (copy_within buf 3 count 0) ≡ drop 3 (take count buf)
moved buf count marked room =
    ap (λ n. take n (copy_within buf 3 count 0)) (omega arith)
    ∙ take-paste buf 0 (drop 3 buf) (count - 3) (omega arith) (omega (arith, length-drop 3 buf, marked, room))
    ∙ sym (drop-take 3 (count - 3) buf) ∙ ap (λ n. drop 3 (take n buf)) (omega (arith, marked))

-- a mark has three bytes
pub three : (head : List ℕ) → begins_utf8 head ≡ true → 3 ≤ length head
three [] is = absurd (let wrong = is in cc)
three (a ∷ []) is = absurd (let wrong = is in cc)
three (a ∷ b ∷ []) is = absurd (let wrong = is in cc)
three (a ∷ b ∷ c ∷ head) is = omega arith

-- bytes that are read after others of a buffer
more_read : (count : ℕ) (buf part : List ℕ) → count ≤ length buf → (more : ℕ) → more ≤ length part
    → take (count + more) (put_mid count (length buf - count) buf part) ≡ take count buf ++ take more part
more_read count buf part room more within =
    subst (λ n. take (n + more) (put_mid count (length buf - count) buf part) ≡ take count buf ++ take more part) (length-take-le count buf room)
    (take-append-add (take count buf) (part ++ drop (length buf - count) (drop count buf)) more
    ∙ ap (λ bytes. take count buf ++ bytes) (take-append-le more part (drop (length buf - count) (drop count buf)) within))

module _ {E : Type 0} (before left left' : Option (List ℕ)) (count : ℕ) (buf part : List ℕ) (room : count ≤ length buf) where
  pub read_after : (result : Result ℕ E) → length part ≡ length buf - count → ReadsAtMost result part → ReadConsumes left left' result part
      → Consumes before left (take count buf)
      → MatchResult result
      (λ more. Consumes before left' (take (count + more) (put_mid count (length buf - count) buf part))
      × (more ≡ 0 → count < length buf → IsAtEnd left'))
      (λ error. Consumes before left' (take count (put_mid count (length buf - count) buf part)))
  read_after (Ok more) is within reads so_far = (
    subst (Consumes before left') (sym (more_read count buf part room more within.0)) (Consumes-trans before left left' (take count buf) (take more part) so_far reads.0),
    λ none some. reads.1 none (omega (arith, is, some)),
  )
  read_after (Err error) is within reads so_far =
      subst (Consumes before left') (sym (take-put_mid_below count (length buf - count) buf part count (omega arith) room))
      (Consumes-kept before left left' (take count buf) so_far reads)

-- what is held comes first
pub held_first : (head : List ℕ) (left : Option (List ℕ)) → Consumes (prepend_known head left) left head
held_first head None = tt
held_first head (Some bytes) = refl

-- what is seen before an input has begun
unread_seen : (start : Start) (left : Option (List ℕ)) → has_begun start ≡ false
    → unread_at start left ≡ option_map seen (prepend_known (held start) left)
unread_seen Unread None not = refl
unread_seen Unread (Some bytes) not = refl
unread_seen (One a) None not = refl
unread_seen (One a) (Some bytes) not = refl
unread_seen (Two a b) None not = refl
unread_seen (Two a b) (Some bytes) not = refl
unread_seen Begun left not = absurd (let wrong = not in cc)
unread_seen Utf16 left not = absurd (let wrong = not in cc)

seen_kept : (head : List ℕ) (before left : Option (List ℕ)) → Consumes before left head
    → Keeps (option_map seen before) (option_map seen (prepend_known head left))
seen_kept head None left consumes = tt
seen_kept head (Some bytes) None consumes = consumes
seen_kept head (Some bytes) (Some rest) consumes = sym (ap seen consumes)

-- a reader whose first bytes are held
module _ (start : Start) (left left' : Option (List ℕ)) (front head : List ℕ) (not : has_begun start ≡ false) (is : front ≡ held start)
    (consumes : Consumes (prepend_known front left) left' head) where
  seen_before : option_map seen (prepend_known front left) ≡ unread_at start left
  seen_before = ap (λ front. option_map seen (prepend_known front left)) is ∙ sym (unread_seen start left not)

  pub still_unread : (start' : Start) → has_begun start' ≡ false → held start' ≡ head → Keeps (unread_at start left) (unread_at start' left')
  still_unread start' not' is' =
      subst (λ old. Keeps old (unread_at start' left')) seen_before
      (subst (Keeps (option_map seen (prepend_known front left)))
      (ap (λ head. option_map seen (prepend_known head left')) (sym is') ∙ sym (unread_seen start' left' not'))
      (seen_kept head (prepend_known front left) left' consumes))

  pub begun : {E : Type 0} (result : Result ℕ E) (new : Option (List ℕ)) (buf : List ℕ)
      → ReadConsumes (option_map seen (prepend_known front left)) new result buf → ReadConsumes (unread_at start left) new result buf
  begun result new buf reads = subst (λ old. ReadConsumes old new result buf) seen_before reads

pub unread_utf16 : {E : Type 0} (start : Start) (left : Option (List ℕ)) (front : List ℕ) (result : Result ℕ E) → start ≡ Unread → front ≡ held start
    → IfSome (prepend_known front left) (λ bytes. begins_utf16 bytes ≡ true → IsErr result)
    → IfSome left (λ bytes. begins_utf16 bytes ≡ true → IsErr result)
unread_utf16 start None front result unread is rejected = tt
unread_utf16 start (Some bytes) front result unread is rejected =
    subst (λ front. begins_utf16 (front ++ bytes) ≡ true → IsErr result) (is ∙ ap held unread) rejected

-- UTF-16 begins an input exactly if it begins what is read
pub utf16_head : {E : Type 0} (head : List ℕ) (before left : Option (List ℕ)) (result : Result ℕ E) → Consumes before left head → IsDecided head left
    → begins_utf16 head ≡ false → IfSome before (λ bytes. begins_utf16 bytes ≡ true → IsErr result)
utf16_head head None left result consumes decided not = tt
utf16_head head (Some bytes) None result consumes decided not = λ is. absurd consumes
utf16_head head (Some bytes) (Some rest) result consumes decided not =
    λ is. absurd (let wrong = sym is ∙ (ap begins_utf16 consumes ∙ (utf16_here head rest decided ∙ not)) in cc)
