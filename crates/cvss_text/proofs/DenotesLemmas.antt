-- A text denotes at most one vector, no two pieces of whose components have one name, and has no
-- rejection where that vector is complete.
use Rattle.std.proofs.Common.{◌≡◌, ℕ, ◌<◌, ◌≤◌, ◌+◌, List, [], ◌∷◌, ◌++◌, length, Option, Some, None, refl, sym, ap, ◌∙◌, subst, arith, Bool, false, true≢false, get_or, take, map, All, filter_map, bytes_eq, option_map}
use Rattle.std.proofs.lemmas.Cmp.{nat_list_eq_equiv}
use Rattle.std.specs.List.{IsDistinct, cons_option, range_with_len}
use Rattle.std.proofs.lemmas.Bool.{false_from_ne_true}
use Rattle.std.proofs.lemmas.List.{get_or-take, length-map, length-take-le, get_or-map}
use Rattle.std.proofs.lemmas.List.Elements.{All-append, recursion_from_All}
use Rattle.std.proofs.lemmas.List.FromFn.{get_or-range_with_len}
use Rattle.std.proofs.lemmas.Map.Keys.{IsDistinct-IsPermutation, IsDistinct-cons, apart_from_distinct}
use Rattle.std.proofs.lemmas.Option.{slice_get_within, get_or_from_slice_get}
use Rattle.std.proofs.lemmas.Slice.Eq.{bytes_eq-Decides}
use Rattle.cvss_base.specs.Text.{pieces, name_part, component}
use Rattle.cvss_base.specs.Version.{Version, read, AreComponentsOf, Denotes, IsComplete, reading, component_of}
use Rattle.cvss_base.specs.Rejection.{Rejection, UnknownName, BadValue, Repeated, Missing, Spells, piece_at, name_at, FaultAt, HasNoFaultBefore, IsFirstReason}
use Rattle.cvss_text.specs.private.Walk.{VersionLaws, place_of}
use Rattle.cvss_text.proofs.TextLemmas.{IsPart, name_part-component, name_part-read}
use Rattle.cvss_text.proofs.LawLemmas.{component_read, name_plain, names_differ}
use Rattle.cvss_text.proofs.ComponentLemmas.{all_taken, are_parts, held_is_named, held_stands, holds_of_components, name_from, piece_held, pieces-joined, value_from, value_from_piece}

-- the texts have one name
abbrev same_names : List ℕ → List ℕ → Bool
same_names x y = bytes_eq (name_part x) (name_part y)

module _ {V K : Type 0} (version : Version V K) (version_laws : VersionLaws version) (v : V) where
  -- a metric's component has another name than those of the metrics printed after it
  distinct_cons : (kind : K) (rest : List (List ℕ)) (held : Option (version.Value kind)) → ((value : version.Value kind) → All (λ text. same_names (component (version.name kind) (reading version kind value)) text ≡ false) (map (read version) rest)) → IsDistinct same_names (map (read version) rest) → IsDistinct same_names (map (read version) (cons_option (option_map (component (version.name kind)) (option_map (version.spelling kind) held)) rest))
  distinct_cons kind rest None apart distinct = distinct
  distinct_cons kind rest (Some value) apart distinct =
      rw (component_read version version_laws kind (version.spelling kind value)) (IsDistinct-cons same_names _ (map (read version) rest) (recursion_from_All _ _ (apart value)) distinct)

  distinct_from : (start : ℕ) (kinds : List K) → map (place_of version) kinds ≡ range_with_len start (length kinds) → IsDistinct same_names (map (read version) (filter_map (component_of version v) kinds))
  unfolding IsDistinct
  distinct_from start [] in_order = tt
  distinct_from start (kind ∷ kinds) in_order =
      let here : place_of version kind ≡ start = cc in
      let later : map (place_of version) kinds ≡ range_with_len (start + 1) (length kinds) = cc in
      distinct_cons kind (filter_map (component_of version v) kinds) (version.value_of v kind)
      (λ value. holds_of_components version version_laws (λ text. same_names (component (version.name kind) (reading version kind value)) text ≡ false) v kinds (λ k d inside other held. false_from_ne_true _ (λ same.
      let name : (each : K) (text : List ℕ) → name_part (component (version.name each) text) ≡ version.name each = λ each text. name_part-component (version.name each) text (name_plain version version_laws each) in
      let one = names_differ version version_laws kind (get_or kinds k d) (sym (name kind _) ∙ (bytes_eq-Decides _ _).0 same ∙ name (get_or kinds k d) _) in
      omega (arith, here, ap (place_of version) one, get_or-map (place_of version) kinds k d 0 inside, ap (λ list. get_or list k 0) later, get_or-range_with_len (start + 1) (length kinds) k 0 inside))))
      (distinct_from (start + 1) kinds later)

  -- two places with one name are one place
  names_apart : (parts : List (List ℕ)) (earlier place : ℕ) → AreComponentsOf version parts v → earlier < place → place < length parts → name_at version parts earlier ≡ name_at version parts place → ⊥
  names_apart parts earlier place components before within same =
      let distinct = IsDistinct-IsPermutation same_names (λ x y. nat_list_eq_equiv.symm (name_part x) (name_part y)) _ _ components.each_once (distinct_from 0 version.printed version_laws.in_order) in
      let apart = apart_from_distinct same_names (map (read version) parts) earlier place [] distinct before (omega (arith, within, length-map parts (read version))) in
      let name : (k : ℕ) → k < length parts → name_part (get_or (map (read version) parts) k []) ≡ name_at version parts k = λ k inside. ap name_part (get_or-map (read version) parts k [] [] inside) ∙ name_part-read version.any_case (piece_at parts k) in
      true≢false (sym ((bytes_eq-Decides _ _).1 (name earlier (omega (arith, before, within)) ∙ same ∙ sym (name place within))) ∙ apart)

-- options that have the same values
same_options : {A : Type 0} (one other : Option A) → ((value : A) → one ≡ Some value → other ≡ Some value) → ((value : A) → other ≡ Some value → one ≡ Some value) → one ≡ other
same_options (Some value) other there back = sym (there value refl)
same_options None None there back = refl
same_options None (Some value) there back = back value refl

module _ {V K : Type 0} (version : Version V K) (version_laws : VersionLaws version) where
  -- a value of one vector is a value of the other, where the same pieces are the components of both
  value_shared : (v w : V) (parts : List (List ℕ)) → AreComponentsOf version parts v → AreComponentsOf version parts w → (kind : K) (value : version.Value kind) → version.value_of v kind ≡ Some value → version.value_of w kind ≡ Some value
  value_shared v w parts of_v of_w kind value held =
      let stands = held_stands version version_laws v parts kind value of_v held in
      let piece = piece_at parts stands.place in
      let here = piece_held version version_laws w parts stands.place of_w stands.within in
      let named = sym (name_from version version_laws piece here.kind _ here.is) ∙ name_from version version_laws piece kind _ stands.is in
      let (other, is_held, is) = subst (λ each. (x : version.Value each) × (version.value_of w each ≡ Some x) × (read version piece ≡ component (version.name each) (reading version each x))) (names_differ version version_laws here.kind kind named) (here.value, here.held, here.is) in
      is_held ∙ ap Some (version_laws.one_value kind other value (sym (value_from_piece version version_laws piece kind _ is) ∙ value_from_piece version version_laws piece kind _ stands.is))

  pub values_same : (v w : V) (parts : List (List ℕ)) → AreComponentsOf version parts v → AreComponentsOf version parts w → (kind : K) → version.value_of v kind ≡ version.value_of w kind
  values_same v w parts of_v of_w kind = same_options _ _ (value_shared v w parts of_v of_w kind) (value_shared w v parts of_w of_v kind)

  pub vectors_same : (v w : V) (parts : List (List ℕ)) → version.front v ≡ version.front w → AreComponentsOf version parts v → AreComponentsOf version parts w → v ≡ w
  vectors_same v w parts front of_v of_w = version_laws.one_vector v w front (values_same v w parts of_v of_w)

  -- the pieces of a vector's components have no fault, whatever follows them
  pub no_fault_before : (v : V) (parts : List (List ℕ)) (n : ℕ) → n ≤ length parts → AreComponentsOf version (take n parts) v → HasNoFaultBefore version parts n
  no_fault_before v parts n fits components = record {
    none = λ place reason below.
        let taken = length-take-le n parts fits in
        let here : (k : ℕ) → k < n → piece_at (take n parts) k ≡ piece_at parts k = λ k inside. get_or-take n parts k [] inside in
        let name : (k : ℕ) → k < n → name_at version (take n parts) k ≡ name_at version parts k = λ k inside. ap (λ piece. read version (name_part piece)) (here k inside) in
        let held = piece_held version version_laws v (take n parts) place components (omega (arith, taken, below)) in
        let is = ap (read version) (sym (here place below)) ∙ held.is in
        let named : version.name held.kind ≡ name_at version parts place = sym (name_from version version_laws (piece_at parts place) held.kind _ is) in
        elim reason as (λ reason. FaultAt version parts place reason → ⊥) [
          | UnknownName name ↦ λ (is, unknown). unknown held.kind (named ∙ sym is)
          | BadValue reported_kind value ↦ λ (kind, _, also_named, value_is, no_spelling).
              no_spelling (subst (λ each. Spells (reading version each) value) (names_differ version version_laws held.kind kind (named ∙ sym also_named))
              (record { value = held.value; spelled = sym (value_from_piece version version_laws (piece_at parts place) held.kind _ is) ∙ sym value_is }))
          | Repeated kind ↦ λ (also_named, _, before).
              names_apart version version_laws v (take n parts) before.earlier place components before.is_before (omega (arith, taken, below))
              (name before.earlier (omega (arith, before.is_before, below)) ∙ before.same_name ∙ also_named ∙ sym (name place below))
          | _ ↦ λ none. none
        ];
  }

  -- pieces that are the components of a complete vector have no reason to be rejected
  pub no_reason : (v : V) (parts : List (List ℕ)) → AreComponentsOf version parts v → IsComplete version v → (reason : Rejection K) → IsFirstReason version parts reason → ⊥
  no_reason v parts components complete (Missing kind) missing =
      let held = complete.present kind (missing.place, slice_get_within version.mandatory missing.place kind missing.is, get_or_from_slice_get version.mandatory missing.place kind kind missing.is) in
      missing.absent (held_is_named version version_laws v parts (length parts) (omega arith) (all_taken version v parts components) kind held)
  no_reason v parts components complete reason is = (no_fault_before v parts (length parts) (omega arith) (all_taken version v parts components)).none is.place reason is.within is.fault

  -- a text that denotes a vector without a front that is no part
  module _ (v : V) (text : List ℕ) (denotes : Denotes version text v) (front : All IsPart (version.front v)) where
    pub pieces_of_denoted : 0 < length (version.front v ++ denotes.parts) → pieces text ≡ version.front v ++ denotes.parts
    pieces_of_denoted some =
        ap pieces denotes.text_is ∙ pieces-joined (version.front v ++ denotes.parts) some
        (All-append IsPart (version.front v) denotes.parts front (are_parts version version_laws v denotes.parts denotes.components))

    -- and is complete
    some_piece : (pieces : List (List ℕ)) → version.front v ≡ pieces → IsComplete version v → 0 < length (pieces ++ denotes.parts)
    some_piece [] frontless complete =
        let mandatory = version_laws.some_piece v frontless in
        let value = value_from (version.value_of v mandatory.0) (complete.present mandatory.0 mandatory.1) in
        omega (arith, (held_stands version version_laws v denotes.parts mandatory.0 value.0 denotes.components value.1).within)
    some_piece (piece ∷ pieces) is complete = omega arith

    pub pieces_of_complete : IsComplete version v → pieces text ≡ version.front v ++ denotes.parts
    pieces_of_complete complete = pieces_of_denoted (some_piece (version.front v) refl complete)
