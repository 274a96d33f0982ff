-- How pieces come off a text and are cut at their colons, that those of a text in UTF-8 are UTF-8, and where a text is read.
use Rattle.std.proofs.Common.{append_assoc, ◌≡◌, ℕ, ◌+◌, ◌-◌, ◌<◌, ◌≤◌, Bool, true, false, cond, eqb, List, [], ◌∷◌, ◌++◌, inl, inr, codes, length, get_or, take, drop, Option, Some, None, refl, sym, ap, ◌∙◌, Bor, arith, subst, IsUtf8}
use Rattle.std.specs.List.{position, position_or_len, All}
use Rattle.std.specs.Option.{option_map_or, unwrap_or}
use Rattle.std.specs.Slice.{IsGetRangeResult}
use Rattle.std.proofs.lemmas.Grind.{common_steps}
use Rattle.std.proofs.lemmas.Bool.{cases_lt, eqb-true, false_from_ne_true, ne_eqb}
use Rattle.std.proofs.lemmas.List.{take_all, take_rest, length-append, get_or-append-add, get_or-append_right, get_or_append_left, get_or_at, take_at, drop_at, drop-drop}
use Rattle.std.proofs.lemmas.List.Elements.{All-nil, All-cons, All-head, All-append, All-drop}
use Rattle.std.proofs.lemmas.List.Folds.{list_any-append, list_any_at, list_any_none}
use Rattle.std.proofs.lemmas.List.Splits.{length-slice_split, slice_split_at, slice_split_none, slice_split_first, join_with_byte-slice_split}
use Rattle.std.proofs.lemmas.List.Sums.{fails_before_first, passes_at_first, split_at_first, sum_by-le}
use Rattle.std.proofs.lemmas.Str.{IsUtf8-take, IsUtf8-drop, IsCharBoundary-before_ascii, IsCharBoundary-after_ascii}
use Rattle.std.proofs.Math.Bool.{or-true}
use Rattle.cvss_base.specs.Rejection.{AreComponentsBefore, IsFirstBadPiece, piece_at}
use Rattle.cvss_base.specs.Text.{pieces, slash, colon, dot, has, joined, component, IsComponent}
use Rattle.cvss_base.specs.Version.{version_piece}
use Rattle.cvss_text.specs.Route.{Route, ToV20, route_of, route_of_pieces, route_of_parts}
use Rattle.cvss_text.specs.private.Pieces.{AreParts, IsAfterComponent, IsAfterComponents, IsWithoutColon}
use Rattle.cvss_text.proofs.TextLemmas.{is_slash, is_colon}

-- the index of the first byte that passes a test
module _ (p : ℕ → Bool) (text : List ℕ) where
  first_at : (at : ℕ) → position p text ≡ Some at → (position_or_len p text < length text) × (position_or_len p text ≡ at)
  first_at at found = (grind (arith, common_steps), grind (arith, common_steps))

  first_nowhere : position p text ≡ None → length text ≤ position_or_len p text
  first_nowhere none = grind (arith, common_steps)

-- the first piece ends at the first slash
pieces-first : (text : List ℕ) (at : ℕ) → position is_slash text ≡ Some at → pieces text ≡ take at text ∷ pieces (drop (at + 1) text)
pieces-first text at found =
    let first = first_at is_slash text at found in
    slice_split_first is_slash text 0 first.0 ∙ rw first.1

-- the first piece ends at the first slash or at the end, and the others are those after it
pub pieces-cut : (text : List ℕ) (found : Option ℕ) (rest : Option (Bor (List ℕ))) → position is_slash text ≡ found → IsGetRangeResult text (unwrap_or found (length text) + 1) (length text) rest → pieces text ≡ take (unwrap_or found (length text)) text ∷ option_map_or (λ left. pieces left.now) rest []
pieces-cut text None None is cut =
    slice_split_none is_slash text (λ k d inside. fails_before_first is_slash text k d (omega (arith, first_nowhere is_slash text is))) ∙ rw (take_all (length text) text (omega arith))
pieces-cut text None (Some left) is cut = absurd (omega (arith, cut.0.0))
pieces-cut text (Some at) None is cut = absurd (elim cut.0 [ inl past ↦ omega (arith, first_at is_slash text at is) | inr past ↦ omega arith ])
pieces-cut text (Some at) (Some left) is cut = pieces-first text at is ∙ rw (cut.0.2, take_rest text (at + 1))

-- a piece is cut at its first colon, and without a colon it is no component
pub AreParts-first : (piece : List ℕ) (at : ℕ) → position is_colon piece ≡ Some at → AreParts piece (take at piece) (drop (at + 1) piece)
AreParts-first piece at found =
    let first = first_at is_colon piece at found in
    rw (sym first.1) (record { cut = split_at_first is_colon piece 0 first.0 ∙ rw (eqb-true _ _ (passes_at_first is_colon piece 0 first.0)); name_is = refl; value_is = refl })

pub without_colon : (piece : List ℕ) → position is_colon piece ≡ None → IsWithoutColon piece
without_colon piece none =
    let fails : All (λ byte. is_colon byte ≡ false) piece = λ place d inside. fails_before_first is_colon piece place d (omega (arith, first_nowhere is_colon piece none)) in
    let uncounted = sum_by-le (λ byte. cond (is_colon byte) 1 0) 0 piece (λ place d inside. omega (arith, ap (λ test. cond {A = ℕ} test 1 0) (fails place d inside))) in
    record { colonless = list_any_none is_colon piece fails; no_component = λ is. omega (arith, uncounted, is.one_colon) }

-- a text cut at an ASCII byte
cut_at_ascii : (front rest : List ℕ) (byte : ℕ) → byte < 128 → IsUtf8 (front ++ byte ∷ rest) → IsUtf8 front × IsUtf8 rest
cut_at_ascii front rest byte ascii is =
    let whole = front ++ byte ∷ rest in
    let at = length front in
    let within : at < length whole = omega (arith, length-append front (byte ∷ rest)) in
    let before = IsUtf8-take whole at is (IsCharBoundary-before_ascii whole at within (omega (arith, get_or_at front byte rest 0 at refl))) in
    let after = IsUtf8-drop whole (at + 1) is (IsCharBoundary-after_ascii whole at is within (omega (arith, get_or_at front byte rest 0 at refl))) in
    (rw (take_at front (byte ∷ rest) at refl) at before, rw (sym (drop-drop 1 at whole) ∙ ap (drop 1) (drop_at front (byte ∷ rest) at refl)) at after)

-- each piece
parts_of_joined : (parts : List (List ℕ)) → IsUtf8 (joined parts) → All IsUtf8 parts
parts_of_joined [] is = All-nil IsUtf8
parts_of_joined (part ∷ []) is = All-cons IsUtf8 part [] is (All-nil IsUtf8)
parts_of_joined (part ∷ next ∷ parts) is =
    let both = cut_at_ascii part (joined (next ∷ parts)) slash (omega arith) is in
    All-cons IsUtf8 part (next ∷ parts) both.0 (parts_of_joined (next ∷ parts) both.1)

pub IsUtf8-pieces : (text : List ℕ) → IsUtf8 text → All IsUtf8 (pieces text)
IsUtf8-pieces text is = parts_of_joined (pieces text) (rw (join_with_byte-slice_split slash text) is)

-- the texts before and after a colon
pub utf8_parts : (piece name value : List ℕ) → piece ≡ component name value → IsUtf8 piece → IsUtf8 name × IsUtf8 value
utf8_parts piece name value cut is = cut_at_ascii name value colon (omega arith) (subst IsUtf8 cut is)

-- a bad piece
pub IsUtf8-bad : {parts : List (List ℕ)} {piece : List ℕ} → IsFirstBadPiece parts piece → All IsUtf8 parts → IsUtf8 piece
IsUtf8-bad bad are = rw bad.is (are bad.place [] bad.within)

-- the pieces that are left after no component, and after one more
pub IsAfterComponents-none : (parts left : List (List ℕ)) → left ≡ parts → IsAfterComponents parts left
IsAfterComponents-none parts left same = record { before = []; cut = sym same; components = All-nil IsComponent }

pub IsAfterComponents-more : (parts left pieces after : List (List ℕ)) → IsAfterComponents parts left → left ≡ pieces → IsAfterComponent pieces after → IsAfterComponents parts after
IsAfterComponents-more parts left pieces after is same first = record {
  before = is.before ++ first.piece ∷ [];
  cut = is.cut ∙ (ap (λ rest. is.before ++ rest) (same ∙ first.first) ∙ sym (append_assoc is.before (first.piece ∷ []) after));
  components = All-append IsComponent is.before (first.piece ∷ []) is.components (All-cons IsComponent first.piece [] first.component (All-nil IsComponent));
}

-- components before pieces of which the first are components too
components_before : (before left : List (List ℕ)) (n : ℕ) → All IsComponent before → AreComponentsBefore left n → AreComponentsBefore (before ++ left) (length before + n)
components_before before left n are after = record {
  each = λ place below. elim (cases_lt place (length before)) [
    | inl early ↦ rw (get_or_append_left before left [] place early) (are place [] early)
    | inr late ↦ rw (get_or-append_right before left (length before) place [] refl late) (after.each (place - length before) (omega (arith, below, late)))
  ];
}

-- what is so of the pieces that follow components is so of all
module _ (parts left : List (List ℕ)) (is : IsAfterComponents parts left) where
  pub AreComponents-after : AreComponentsBefore left (length left) → AreComponentsBefore parts (length parts)
  AreComponents-after after =
      let same : length parts ≡ length is.before + length left = ap length is.cut ∙ length-append is.before left in
      rw same (subst (λ list. AreComponentsBefore list (length is.before + length left)) (sym is.cut) (components_before is.before left (length left) is.components after))

  pub IsFirstBadPiece-after : (piece : List ℕ) → IsFirstBadPiece left piece → IsFirstBadPiece parts piece
  IsFirstBadPiece-after piece first = subst (λ list. IsFirstBadPiece list piece) (sym is.cut) (record {
    place = length is.before + first.place;
    within = omega (arith, length-append is.before left, first.within);
    is = first.is ∙ sym (get_or-append-add is.before left first.place []);
    bad = first.bad;
    earlier = components_before is.before left first.place is.components first.earlier;
  })

  -- where no piece is left, and where the next is bad
  pub AreComponents-all : left ≡ [] → AreComponentsBefore parts (length parts)
  AreComponents-all none = AreComponents-after (record { each = λ place below. absurd (omega (arith, below, ap length none)) })

  pub IsFirstBadPiece-next : (pieces rest : List (List ℕ)) (piece : List ℕ) → left ≡ pieces → pieces ≡ piece ∷ rest → ¬ (IsComponent (piece_at pieces 0)) → IsFirstBadPiece parts piece
  IsFirstBadPiece-next pieces rest piece same cut bad = IsFirstBadPiece-after piece (record {
    place = 0;
    within = omega (arith, ap length (same ∙ cut));
    is = sym (ap (λ list. piece_at list 0) (same ∙ cut));
    bad = subst (λ first. ¬ (IsComponent first)) (ap (λ list. piece_at list 0) cut) bad;
    earlier = record { each = λ place below. absurd (omega (arith, below)) };
  })

pub ruleset piece_count = (length-slice_split, tt)

pub ruleset after_components = (IsAfterComponents-none, IsAfterComponents-more, AreComponents-all, tt)

-- the pieces after others
pub All-left : (P : List ℕ → Type 0) (parts before left : List (List ℕ)) → parts ≡ before ++ left → All P parts → All P left
All-left P parts before left cut all = subst (All P) (ap (drop (length before)) cut ∙ drop_at before left (length before) refl) (All-drop P (length before) parts all)

-- the route of a text that is cut at its first slash, and its first piece at its first colon
pub cut_routed : (text piece prefix reported after : List ℕ) (left : List (List ℕ)) (to : Route) → pieces text ≡ piece ∷ left → left ≡ pieces after → AreParts piece prefix reported → to ≡ route_of_parts prefix reported → to ≡ route_of text
cut_routed text piece prefix reported after [] to cut some parts is = absurd (omega (arith, ap length some, length-slice_split is_slash after))
cut_routed text piece prefix reported after (next ∷ more) to cut some parts is =
    let colon_in : has colon piece ≡ true = ap (has colon) parts.cut ∙ list_any-append is_colon prefix (colon ∷ reported) ∙ or-true (has colon prefix) in
    let by_parts : route_of_pieces (piece ∷ next ∷ more) ≡ route_of_parts prefix reported = rw (colon_in, sym parts.name_is, sym parts.value_is) refl in
    is ∙ sym (ap route_of_pieces cut ∙ by_parts)

-- the first piece of a text
pub first_utf8 : (text piece : List ℕ) (rest : List (List ℕ)) → pieces text ≡ piece ∷ rest → IsUtf8 text → IsUtf8 piece
first_utf8 text piece rest cut is = All-head IsUtf8 piece rest (subst (All IsUtf8) cut (IsUtf8-pieces text is))

-- a text that begins with a piece and a slash
pub pieces_after : (piece rest : List ℕ) → has slash piece ≡ false → pieces (piece ++ (slash ∷ rest)) ≡ piece ∷ pieces rest
pieces_after piece rest none = slice_split_at (λ each. eqb each slash) piece slash rest
    (λ k d inside. false_from_ne_true _ (λ yes. let found = list_any_at (λ each. eqb each slash) piece k d inside yes in cc)) refl

-- a text that begins with a component, a name of two letters and a value of one, says no version
pub short_routed : (text : List ℕ) → 5 ≤ length text → 65 ≤ get_or text 0 0 → 65 ≤ get_or text 1 0 → get_or text 2 0 ≡ colon → 65 ≤ get_or text 3 0 → get_or text 4 0 ≡ slash → route_of text ≡ ToV20
short_routed (a ∷ b ∷ x ∷ c ∷ y ∷ rest) some letter_a letter_b is_colon letter_c is_slash =
    let another : (byte other : ℕ) → other < 65 → 65 ≤ byte → eqb byte other ≡ false = λ byte other below above. ne_eqb byte other (λ same. omega (arith, below, above, same)) in
    let piece = component (a ∷ b ∷ []) (c ∷ []) in
    let none : has slash piece ≡ false = rw (another a slash (omega arith) letter_a, another b slash (omega arith) letter_b, another c slash (omega arith) letter_c) refl in
    let cut : pieces (a ∷ b ∷ x ∷ c ∷ y ∷ rest) ≡ piece ∷ pieces rest = rw (is_colon, is_slash) (pieces_after piece rest none) in
    let parts = AreParts-first piece 2 (rw (another a colon (omega arith) letter_a, another b colon (omega arith) letter_b) refl) in
    sym (cut_routed (a ∷ b ∷ x ∷ c ∷ y ∷ rest) piece (a ∷ b ∷ []) (c ∷ []) rest (pieces rest) ToV20 cut refl parts (rw (another c dot (omega arith) letter_c) refl))
short_routed text some letter_a letter_b is_colon letter_c is_slash = absurd (omega (arith, some))

-- a text that says its version after the prefix is read by the rules of that
pub said_routed : (text after said reported rest : List ℕ) (to : Route) → text ≡ codes "CVSS" ++ after → after ≡ said ++ (slash ∷ rest) → said ≡ colon ∷ reported → has slash reported ≡ false → to ≡ route_of_parts (codes "CVSS") reported → to ≡ route_of text
said_routed text after said reported rest to is cut says none routed =
    let whole : text ≡ version_piece reported ++ (slash ∷ rest) = is ∙ ap (λ it. codes "CVSS" ++ it) (cut ∙ ap (λ version. version ++ (slash ∷ rest)) says) in
    cut_routed text (version_piece reported) (codes "CVSS") reported rest (pieces rest) to (ap pieces whole ∙ pieces_after (version_piece reported) rest none) refl (record { cut = refl; name_is = refl; value_is = refl }) routed

pub ruleset cuts = (pieces-cut, AreParts-first, without_colon, take_rest, tt)
