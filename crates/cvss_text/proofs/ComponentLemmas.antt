-- The components of a vector, the pieces that stand for them, and the pieces of a join.
use Rattle.std.proofs.Common.{◌≡◌, ◌≢◌, inl, inr, ℕ, ◌<◌, ◌≤◌, false, ltb, List, [], ◌∷◌, ◌++◌, length, get_or, map, take, Option, Some, None, IsSome, refl, sym, ap, ◌∙◌, subst, arith, append_assoc, append-nil, count_by, IsAscii, IsPermutation, IsUtf8, ltb-false, option_map}
use Rattle.std.specs.List.{All, Contains, filter_map, cons_option}
use Rattle.std.proofs.lemmas.List.{map-append, length-map, get_or-map, get_or-take, length-take-le, take_all}
use Rattle.std.proofs.lemmas.List.Elements.{All-nil, All-cons, All-head, All-tail, All-weaker, All-get_or, All-from_get_or, Contains-append_right, filter_map-append}
use Rattle.std.proofs.lemmas.List.Sorted.{IsPermutation-middle, IsPermutation-cons, IsPermutation-to_front, IsPermutation-sym, IsPermutation-trans, All-permutation, Contains-permutation}
use Rattle.std.proofs.lemmas.List.Splits.{slice_split_none, slice_split_at}
use Rattle.std.proofs.lemmas.Str.{IsUtf8-nil, IsUtf8-append, IsUtf8-from_ascii}
use Rattle.std.proofs.lemmas.Str.Ascii.{IsAscii-from_all}
use Rattle.cvss_base.specs.Rejection.{IsNamedBefore, piece_at}
use Rattle.cvss_base.specs.Text.{IsComponent, component, joined, name_part, pieces, slash, value_part}
use Rattle.cvss_base.specs.Version.{Version, read, component_of, components_of, AreComponentsOf}
use Rattle.cvss_text.specs.private.Walk.{VersionLaws, Adds}
use Rattle.cvss_text.proofs.LawLemmas.{IsCutAt, component_read, name_plain, names_differ, printed_once}
use Rattle.cvss_text.proofs.TextLemmas.{is_slash, All-from_count, IsPart, IsPart-component, IsPart-read, delimiter_bytes-read, delimiter_sorts, read-component, name_part-read, value_part-read, name_part-component, value_part-component}

-- maps that agree at each element give one list
pub filter_map-agree : {X Y : Type 0} (f g : X → Option Y) (xs : List X) → All (λ x. f x ≡ g x) xs → filter_map f xs ≡ filter_map g xs
filter_map-agree f g [] all = refl
filter_map-agree f g (x ∷ xs) all = cc (All-head (λ x. f x ≡ g x) x xs all, filter_map-agree f g xs (All-tail (λ x. f x ≡ g x) x xs all))

-- an element more in the middle of one list, and at the end of the other
IsPermutation-insert_push : {X : Type 0} (xs ys zs : List X) (x : X) → IsPermutation (xs ++ ys) zs → IsPermutation (xs ++ x ∷ ys) (zs ++ x ∷ [])
IsPermutation-insert_push xs ys zs x same =
    IsPermutation-trans _ (x ∷ (xs ++ ys)) _ (IsPermutation-middle xs x ys)
    (IsPermutation-trans _ (x ∷ zs) _ (IsPermutation-cons x (xs ++ ys) zs same)
    (IsPermutation-sym _ _ (IsPermutation-to_front zs x)))

-- the text is the component of one of the vector's values, as it is read
pub record IsHeldAs {V K : Type 0} (version : Version V K) (v : V) (text : List ℕ) : Type 0 where
  pub kind : K
  pub value : version.Value kind
  pub held : version.value_of v kind ≡ Some value
  pub is : text ≡ component (version.name kind) (read version (version.spelling kind value))

-- the piece at a place stands for this value
pub record StandsAt {V K : Type 0} (version : Version V K) (parts : List (List ℕ)) (kind : K) (value : version.Value kind) : Type 0 where
  pub place : ℕ
  pub within : place < length parts
  pub is : read version (piece_at parts place) ≡ component (version.name kind) (read version (version.spelling kind value))

-- the component of the metric's value, as it is read, is one of which P holds
abbrev pub HoldsHere : {V K : Type 0} → Version V K → (List ℕ → Type 0) → V → K → Type 0
HoldsHere version P v kind = (value : version.Value kind) → version.value_of v kind ≡ Some value → P (component (version.name kind) (read version (version.spelling kind value)))

module _ {V K : Type 0} (version : Version V K) (version_laws : VersionLaws version) where
  -- the components, as they are read, cut at one metric
  components_at : (v : V) (kind : K) (cut : IsCutAt version.printed kind) → map (read version) (components_of version v) ≡ map (read version) (filter_map (component_of version v) cut.before) ++ map (read version) (cons_option (component_of version v kind) (filter_map (component_of version v) cut.after))
  components_at v kind cut =
      ap (map (read version)) (ap (filter_map (component_of version v)) cut.is ∙ filter_map-append (component_of version v) cut.before (kind ∷ cut.after)) ∙ map-append (read version) _ _

  -- the vector after a component has one component more
  pub adds_component : (old new : V) (parts : List (List ℕ)) (piece : List ℕ) → Adds version old piece new → AreComponentsOf version parts old → AreComponentsOf version (parts ++ piece ∷ []) new
  adds_component old new parts piece adds components =
      let kind = adds.kind in
      let cut = printed_once version version_laws kind in
      let kept : (list : List K) → All (λ other. other ≢ kind) list → filter_map (component_of version new) list ≡ filter_map (component_of version old) list =
      λ list others. filter_map-agree (component_of version new) (component_of version old) list (λ k d inside. elim (adds.puts.others (get_or list k d)) [ inl same ↦ absurd (others k d inside same) | inr same ↦ ap (λ held. option_map (component (version.name (get_or list k d))) (option_map (version.spelling (get_or list k d)) held)) same ]) in
      let before = map (read version) (filter_map (component_of version old) cut.before) in
      let after = map (read version) (filter_map (component_of version old) cut.after) in
      let added = component (version.name kind) (read version (version.spelling kind adds.puts.fills.value)) in
      let new_is : map (read version) (components_of version new) ≡ before ++ added ∷ after =
      components_at new kind cut ∙ rw (kept cut.before cut.not_before, kept cut.after cut.not_after, adds.puts.fills.filled, component_read version version_laws kind (version.spelling kind adds.puts.fills.value)) in
      let old_is : map (read version) (components_of version old) ≡ before ++ after =
      components_at old kind cut ∙ rw adds.puts.fills.was_empty in
      let piece_is : read version piece ≡ added =
      ap (read version) adds.cut ∙ read-component version.any_case (name_part piece) (value_part piece) ∙ rw (adds.named, adds.puts.fills.spelled) in
      let parts_are : map (read version) (parts ++ piece ∷ []) ≡ map (read version) parts ++ added ∷ [] =
      map-append (read version) parts (piece ∷ []) ∙ rw piece_is in
      record { each_once = rw (new_is, parts_are) (IsPermutation-insert_push before after (map (read version) parts) added (rw old_is at components.each_once)) }

  -- a value of the vector is among the pieces
  pub held_stands : (v : V) (parts : List (List ℕ)) (kind : K) (value : version.Value kind) → AreComponentsOf version parts v → version.value_of v kind ≡ Some value → StandsAt version parts kind value
  held_stands v parts kind value components held =
      let cut = printed_once version version_laws kind in
      let text = component (version.name kind) (read version (version.spelling kind value)) in
      let among : Contains (map (read version) (components_of version v)) text =
      subst (λ list. Contains list text) (sym (components_at v kind cut)) (Contains-append_right (map (read version) (filter_map (component_of version v) cut.before)) _ text (rw held (0, omega arith, component_read version version_laws kind (version.spelling kind value)))) in
      let found = Contains-permutation _ _ text components.each_once among in
      let within : found.0 < length parts = omega (arith, length-map parts (read version), found.1) in
      record { place = found.0; within = within; is = sym (get_or-map (read version) parts found.0 [] text within) ∙ found.2 }

  -- what holds so of each metric, holds of all components
  holds_with : (P : List ℕ → Type 0) (v : V) (kind : K) (rest : List (List ℕ)) (held : Option (version.Value kind)) → version.value_of v kind ≡ held → HoldsHere version P v kind → All P (map (read version) rest) → All P (map (read version) (cons_option (option_map (component (version.name kind)) (option_map (version.spelling kind) held)) rest))
  holds_with P v kind rest None is here all = all
  holds_with P v kind rest (Some value) is here all = All-cons P _ (map (read version) rest) (rw (component_read version version_laws kind (version.spelling kind value)) (here value is)) all

  pub holds_of_components : (P : List ℕ → Type 0) (v : V) (kinds : List K) → All (HoldsHere version P v) kinds → All P (map (read version) (filter_map (component_of version v) kinds))
  holds_of_components P v [] each = All-nil P
  holds_of_components P v (kind ∷ kinds) each = holds_with P v kind (filter_map (component_of version v) kinds) (version.value_of v kind) refl (All-head (HoldsHere version P v) kind kinds each) (holds_of_components P v kinds (All-tail (HoldsHere version P v) kind kinds each))

  -- each piece stands for a value of the vector
  pub piece_held : (v : V) (parts : List (List ℕ)) (place : ℕ) → AreComponentsOf version parts v → place < length parts → IsHeldAs version v (read version (piece_at parts place))
  piece_held v parts place components within =
      let held = holds_of_components (IsHeldAs version v) v version.printed (λ k d inside value held. record { kind = get_or version.printed k d; value = value; held = held; is = refl }) in
      let all = All-permutation (IsHeldAs version v) _ _ components.each_once held in
      subst (IsHeldAs version v) (get_or-map (read version) parts place [] (read version []) within) (All-get_or (IsHeldAs version v) (map (read version) parts) place (read version []) (omega (arith, length-map parts (read version))) all)

-- the value that is there
pub value_from : {A : Type 0} (option : Option A) → IsSome option → (value : A) × (option ≡ Some value)
value_from None is = cc
value_from (Some value) is = (value, refl)

module _ {V K : Type 0} (version : Version V K) (version_laws : VersionLaws version) where
  -- the name and the value of a piece that stands for a component
  pub name_from : (piece : List ℕ) (kind : K) (text : List ℕ) → read version piece ≡ component (version.name kind) text → read version (name_part piece) ≡ version.name kind
  name_from piece kind text is =
      sym (name_part-read version.any_case piece) ∙ (ap name_part is ∙ name_part-component (version.name kind) text (name_plain version version_laws kind))

  pub value_from_piece : (piece : List ℕ) (kind : K) (text : List ℕ) → read version piece ≡ component (version.name kind) text → read version (value_part piece) ≡ text
  value_from_piece piece kind text is =
      sym (value_part-read version.any_case piece) ∙ (ap value_part is ∙ value_part-component (version.name kind) text (name_plain version version_laws kind))

  -- where the vector holds the components before a place, its values are the metrics named there
  module _ (v : V) (parts : List (List ℕ)) (place : ℕ) (within : place ≤ length parts) (components : AreComponentsOf version (take place parts) v) where
    pub named_is_held : (kind : K) → IsNamedBefore version parts place kind → IsSome (version.value_of v kind)
    named_is_held kind named =
        let held = piece_held version version_laws v (take place parts) named.earlier components (omega (arith, length-take-le place parts within, named.is_before)) in
        let here = get_or-take place parts named.earlier [] named.is_before in
        let is_kind : held.kind ≡ kind = names_differ version version_laws held.kind kind (sym (name_from (piece_at parts named.earlier) held.kind _ (ap (read version) (sym here) ∙ held.is)) ∙ named.same_name) in
        subst (λ each. IsSome (version.value_of v each)) is_kind (rw held.held)

    pub held_is_named : (kind : K) → IsSome (version.value_of v kind) → IsNamedBefore version parts place kind
    held_is_named kind held =
        let value = value_from (version.value_of v kind) held in
        let stands = held_stands version version_laws v (take place parts) kind value.0 components value.1 in
        let before : stands.place < place = omega (arith, length-take-le place parts within, stands.within) in
        record { earlier = stands.place; is_before = before; same_name = name_from (piece_at parts stands.place) kind _ (ap (read version) (sym (get_or-take place parts stands.place [] before)) ∙ stands.is) }

-- pieces are the first of themselves
pub all_taken : {V K : Type 0} (version : Version V K) (v : V) (parts : List (List ℕ)) → AreComponentsOf version parts v → AreComponentsOf version (take (length parts) parts) v
all_taken version v parts components = rw (take_all (length parts) parts (omega arith)) components

-- no slash is in the part
abbrev pub IsUncut : List ℕ → Type 0
IsUncut part = All (λ byte. is_slash byte ≡ false) part

-- parts that are joined, and go on with a text before which a part is one piece
joined_then : (tail : List ℕ) (left : List (List ℕ)) → ((part : List ℕ) → IsUncut part → pieces (part ++ tail) ≡ part ∷ left) → (part : List ℕ) (parts : List (List ℕ)) → All IsUncut (part ∷ parts) → pieces (joined (part ∷ parts) ++ tail) ≡ part ∷ (parts ++ left)
joined_then tail left ends part [] are = ends part (All-head IsUncut part [] are)
joined_then tail left ends part (next ∷ parts) are =
    ap pieces (append_assoc part (slash ∷ joined (next ∷ parts)) tail)
    ∙ slice_split_at is_slash part slash (joined (next ∷ parts) ++ tail) (All-head IsUncut part (next ∷ parts) are) refl
    ∙ ap (λ rest. part ∷ rest) (joined_then tail left ends next parts (All-tail IsUncut part (next ∷ parts) are))

-- parts that are joined, and nothing after them
pub pieces-all : (part : List ℕ) (parts : List (List ℕ)) → All IsUncut (part ∷ parts) → pieces (joined (part ∷ parts)) ≡ part ∷ parts
pieces-all part parts are =
    ap pieces (sym (append-nil (joined (part ∷ parts))))
    ∙ joined_then [] [] (λ each uncut. ap pieces (append-nil each) ∙ slice_split_none is_slash each uncut) part parts are
    ∙ append-nil (part ∷ parts)

-- parts that are joined, and a text after one more slash
pub pieces-then : (part : List ℕ) (parts : List (List ℕ)) (rest : List ℕ) → All IsUncut (part ∷ parts) → pieces (joined (part ∷ parts) ++ slash ∷ rest) ≡ part ∷ (parts ++ pieces rest)
pieces-then part parts rest are =
    joined_then (slash ∷ rest) (pieces rest) (λ each uncut. slice_split_at is_slash each slash rest uncut refl) part parts are

pub are_uncut : (parts : List (List ℕ)) → All IsPart parts → All IsUncut parts
are_uncut parts are = All-weaker IsPart IsUncut (λ part is. All-from_count is_slash part (omega (arith, delimiter_sorts part, is.one_colon, is.one_delimiter))) parts are

pub pieces-joined : (parts : List (List ℕ)) → 0 < length parts → All IsPart parts → pieces (joined parts) ≡ parts
pieces-joined [] some are = absurd (omega arith)
pieces-joined (part ∷ parts) some are = pieces-all part parts (are_uncut (part ∷ parts) are)

-- a text without a byte beyond ASCII
none_beyond : (text : List ℕ) → count_by (ltb 127) text ≡ 0 → IsAscii text
none_beyond text none = IsAscii-from_all text (λ k d inside. omega (arith, ltb-false 127 _ (All-from_count (ltb 127) text none k d inside)))

-- texts in UTF-8 with slashes between them
IsUtf8-joined : (parts : List (List ℕ)) → All IsUtf8 parts → IsUtf8 (joined parts)
IsUtf8-joined [] all = IsUtf8-nil
IsUtf8-joined (part ∷ []) all = All-head IsUtf8 part [] all
IsUtf8-joined (part ∷ next ∷ parts) all =
    IsUtf8-append part (slash ∷ joined (next ∷ parts)) (All-head IsUtf8 part (next ∷ parts) all)
    (IsUtf8-append (slash ∷ []) (joined (next ∷ parts)) (IsUtf8-from_ascii (slash ∷ []) (none_beyond (slash ∷ []) refl)) (IsUtf8-joined (next ∷ parts) (All-tail IsUtf8 part (next ∷ parts) all)))

pub IsUtf8-parts : (parts : List (List ℕ)) → All IsPart parts → IsUtf8 (joined parts)
IsUtf8-parts parts are = IsUtf8-joined parts (All-weaker IsPart IsUtf8 (λ part is. IsUtf8-from_ascii part (none_beyond part (omega (arith, delimiter_sorts part, is.one_colon, is.one_delimiter)))) parts are)

module _ {V K : Type 0} (version : Version V K) (version_laws : VersionLaws version) (v : V) (parts : List (List ℕ)) (components : AreComponentsOf version parts v) where
  pub are_parts : All IsPart parts
  are_parts = All-from_get_or IsPart parts [] (λ place within.
      let held = piece_held version version_laws v parts place components within in
      let plain = delimiter_bytes-read version.any_case (version.spelling held.kind held.value) ∙ version_laws.spelling_plain held.kind held.value in
      IsPart-read version.any_case (piece_at parts place) (rw held.is (IsPart-component (version.name held.kind) _ (name_plain version version_laws held.kind) plain)))

  pub piece_is_component : (place : ℕ) → place < length parts → IsComponent (piece_at parts place)
  piece_is_component place within = record { one_colon = (are_parts place [] within).one_colon }
