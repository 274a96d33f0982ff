-- The steps of the walk over the components, and its end.
use Rattle.std.proofs.Common.{◌≡◌, ℕ, ◌<◌, ◌≤◌, true, false, List, [], ◌∷◌, ◌++◌, length, take, Option, Some, None, IsSome, Ok, Err, Contains, is_none, refl, sym, ap, ◌∙◌, subst, arith, append_assoc, append-nil, IsUtf8}
use Rattle.std.specs.List.{All, filter_map, onto_first}
use Rattle.std.proofs.lemmas.List.{get_or-append-add, length-append, take_at}
use Rattle.std.proofs.lemmas.List.Elements.{All-head, All-tail, All-from_get_or}
use Rattle.std.proofs.lemmas.List.Sorted.{IsPermutation-refl}
use Rattle.std.proofs.lemmas.List.Splits.{length-slice_split, slice_split-cons_no}
use Rattle.std.proofs.lemmas.Option.{slice_get_within, get_or_from_slice_get}
use Rattle.cvss_base.proofs.FindLemmas.{found_first, not_found}
use Rattle.cvss_base.specs.Rejection.{Rejection, AreComponentsBefore, BadComponent, Repeated, Missing, piece_at, FaultAt, HasNoFaultBefore, IsFirstBadPiece, IsFirstMissing, IsNamedBefore}
use Rattle.cvss_base.specs.Text.{colon, pieces, IsComponent, name_part, component}
use Rattle.cvss_base.specs.Version.{Version, component_of, AreComponentsOf, IsComplete}
use Rattle.cvss_base.specs.private.Component.{delimiter_bytes}
use Rattle.cvss_text.specs.declared.walk.Fault.TheVariants.{MissingMandatoryMetric}
use Rattle.cvss_text.specs.private.Pieces.{IsAfterComponents}
use Rattle.cvss_text.specs.private.Walk.{VersionLaws, IsCut, IsCutFirst, IsFirstOfPieces, HasNoValue, Adds, HasReadTo, IsFaultOf, IsReadLeft, first_missing}
use Rattle.cvss_text.proofs.ComponentLemmas.{adds_component, all_taken, held_is_named, named_is_held, piece_is_component}
use Rattle.cvss_text.proofs.DenotesLemmas.{no_fault_before}
use Rattle.cvss_text.proofs.LawLemmas.{name_plain, IsCut_named}
use Rattle.cvss_text.proofs.PieceLemmas.{All-left, AreComponents-after, IsFirstBadPiece-after}
use Rattle.cvss_text.proofs.TextLemmas.{is_slash, All-from_count, delimiter_bytes-read, delimiter_sorts}

-- pieces that begin with bytes that are no slash
onto_first_piece : (front rest first : List ℕ) (after : List (List ℕ)) → All (λ byte. is_slash byte ≡ false) front → pieces rest ≡ first ∷ after → pieces (front ++ rest) ≡ (front ++ first) ∷ after
onto_first_piece [] rest first after none found = found
onto_first_piece (byte ∷ front) rest first after none found =
    slice_split-cons_no is_slash byte (front ++ rest) (All-head (λ each. is_slash each ≡ false) byte front none)
    ∙ ap (onto_first byte) (onto_first_piece front rest first after (All-tail (λ each. is_slash each ≡ false) byte front none) found)

pieces-after : (name rest value : List ℕ) (after : List (List ℕ)) → delimiter_bytes name ≡ 0 → pieces rest ≡ value ∷ after → pieces (component name rest) ≡ component name value ∷ after
pieces-after name rest value after plain found =
    onto_first_piece name (colon ∷ rest) (colon ∷ value) after (All-from_count is_slash name (omega (arith, delimiter_sorts name, plain)))
    (slice_split-cons_no is_slash colon rest refl ∙ ap (onto_first colon) found)

module _ {V K : Type 0} (version : Version V K) (version_laws : VersionLaws version) where
  -- a text that begins with a metric's name and a colon: no slash is before the value
  pub IsCutFirst-after : (text rest value : List ℕ) (kind : K) (after : List (List ℕ)) → IsCut version text kind rest → pieces rest ≡ value ∷ after → IsCutFirst version text kind value after
  IsCutFirst-after text rest value kind after is found =
      let name = name_part text in
      let plain : delimiter_bytes name ≡ 0 = sym (delimiter_bytes-read version.any_case name) ∙ (ap delimiter_bytes (sym is.named) ∙ name_plain version version_laws kind) in
      record {
        piece = component name value;
        first = ap pieces is.cut ∙ pieces-after name rest value after plain found;
        is = IsCut_named version version_laws (component name value) name value kind refl is.named;
      }

  -- the fault of a component is one at its place, where the vector holds the components before it
  pub fault_at : (v : V) (parts : List (List ℕ)) (place : ℕ) → place ≤ length parts → AreComponentsOf version (take place parts) v → (reason : Rejection K) → IsFaultOf version v (piece_at parts place) reason → FaultAt version parts place reason
  fault_at v parts place within components (Repeated kind) (named, spelling, held) = (named, spelling, held_is_named version version_laws v parts place within components kind held)
  fault_at v parts place within components _ fault = fault

  -- the start, a step and the end of the walk
  components_none : (v : V) → HasNoValue version v → (kinds : List K) → filter_map (component_of version v) kinds ≡ []
  components_none v empty [] = refl
  components_none v empty (kind ∷ kinds) = rw (empty.none kind) (components_none v empty kinds)

  pub AreComponentsOf-none : (v : V) → HasNoValue version v → AreComponentsOf version [] v
  AreComponentsOf-none v empty = record { each_once = rw (components_none v empty version.printed) (IsPermutation-refl []) }

  pub HasReadTo-start : (parts : List (List ℕ)) (v : V) → HasNoValue version v → HasReadTo version parts parts v
  HasReadTo-start parts v empty = record { before = []; cut = refl; components = AreComponentsOf-none v empty }

  module _ (parts left : List (List ℕ)) (v : V) (to : HasReadTo version parts left v) where
    pub HasReadTo-more : (new : V) (piece : List ℕ) (after : List (List ℕ)) → left ≡ piece ∷ after → Adds version v piece new → HasReadTo version parts after new
    HasReadTo-more new piece after first adds = record {
      before = to.before ++ piece ∷ [];
      cut = to.cut ∙ ap (λ rest. to.before ++ rest) first ∙ sym (append_assoc to.before (piece ∷ []) after);
      components = adds_component version version_laws v new to.before piece adds to.components;
    }

    pub HasReadTo-all : left ≡ [] → AreComponentsOf version parts v
    HasReadTo-all none = subst (λ each. AreComponentsOf version each v) (sym (to.cut ∙ ap (λ rest. to.before ++ rest) none ∙ append-nil to.before)) to.components

    module _ (text : List ℕ) (is : left ≡ pieces text) where
      follows : IsAfterComponents parts (pieces text)
      follows = record {
        before = to.before;
        cut = to.cut ∙ ap (λ rest. to.before ++ rest) is;
        components = All-from_get_or IsComponent to.before [] (piece_is_component version version_laws v to.before to.components);
      }

      pub IsUtf8-follows : All IsUtf8 parts → All IsUtf8 (pieces text)
      IsUtf8-follows = All-left IsUtf8 parts follows.before (pieces text) follows.cut

      pub IsFirstBadPiece-follows : (piece : List ℕ) → IsFirstBadPiece (pieces text) piece → IsFirstBadPiece parts piece
      IsFirstBadPiece-follows = IsFirstBadPiece-after parts (pieces text) follows

    pub taken : AreComponentsOf version (take (length to.before) parts) v
    taken = subst (λ each. AreComponentsOf version each v) (sym (ap (take (length to.before)) to.cut ∙ take_at to.before left (length to.before) refl)) to.components

    pub none_before : HasNoFaultBefore version parts (length to.before)
    none_before = no_fault_before version version_laws v parts (length to.before) (omega (arith, ap length to.cut, length-append to.before left)) taken

    -- the first piece that is left, and its fault where the vector holds those before it
    pub first_left : piece_at left 0 ≡ piece_at parts (length to.before)
    first_left = sym (ap (λ list. piece_at list (length to.before)) to.cut ∙ ap (piece_at (to.before ++ left)) (omega arith) ∙ get_or-append-add to.before left 0 [])

    -- the fault of a component is the first reason, where all pieces are components
    pub IsFirstOfPieces-fault : (text : List ℕ) → left ≡ pieces text → AreComponentsBefore (pieces text) (length (pieces text)) → (reason : Rejection K) → (IsComponent (piece_at (pieces text) 0) → IsFaultOf version v (piece_at (pieces text) 0) reason) → IsFirstOfPieces version parts reason
    IsFirstOfPieces-fault text is after reason fault =
        let first : piece_at (pieces text) 0 ≡ piece_at parts (length to.before) = ap (λ list. piece_at list 0) (sym is) ∙ first_left in
        let component = after.each 0 (omega (arith, length-slice_split is_slash text)) in
        of_fault reason (fault_at v parts (length to.before) (omega (arith, within)) taken reason (subst (λ piece. IsFaultOf version v piece reason) first (fault component)))
      where
        within : length to.before < length parts
        within = omega (arith, ap length to.cut, length-append to.before left, ap length is, length-slice_split is_slash text)

        all : AreComponentsBefore parts (length parts)
        all = AreComponents-after parts (pieces text) (follows text is) after

        of_fault : (reason : Rejection K) → FaultAt version parts (length to.before) reason → IsFirstOfPieces version parts reason
        of_fault (BadComponent piece) none = absurd none
        of_fault (Missing kind) none = absurd none
        of_fault _ fault = (all, record { place = length to.before; within = within; fault = fault; earlier = none_before })

-- the first mandatory metric that a vector lacks
pub none_absent : {X : Type 0} (o : Option X) → is_none o ≡ true → IsSome o → ⊥
none_absent None is some = absurd cc
none_absent (Some x) is some = absurd cc

is_none_false : {X : Type 0} (o : Option X) → is_none o ≡ false → IsSome o
is_none_false None is = absurd cc
is_none_false (Some x) is = refl

module _ {V K : Type 0} (version : Version V K) (v : V) where
  pub IsComplete-from : first_missing version v ≡ None → IsComplete version v
  IsComplete-from none = record {
    present = λ kind (place, within, is).
        is_none_false (version.value_of v kind)
        (subst (λ other. is_none (version.value_of v other) ≡ false) is
        (not_found (λ other. is_none (version.value_of v other)) version.mandatory place kind none within));
  }

  -- the metric that is missing is a mandatory one
  pub Contains-missing : (kind : K) → first_missing version v ≡ Some kind → Contains version.mandatory kind
  Contains-missing kind found =
      let first = found_first (λ other. is_none (version.value_of v other)) version.mandatory kind found in
      (first.place, slice_get_within version.mandatory first.place kind first.is, get_or_from_slice_get version.mandatory first.place kind kind first.is)

module _ {V K : Type 0} (version : Version V K) (version_laws : VersionLaws version) (parts : List (List ℕ)) (v : V) (components : AreComponentsOf version parts v) where
  -- the first mandatory metric that the vector lacks is the first that no component names
  pub IsFirstMissing-from : (kind : K) → Some kind ≡ first_missing version v → IsFirstMissing version parts kind
  IsFirstMissing-from kind missing =
      let first = found_first (λ other. is_none (version.value_of v other)) version.mandatory kind (sym missing) in
      let all = all_taken version v parts components in
      let held : (other : K) → IsNamedBefore version parts (length parts) other → IsSome (version.value_of v other) = named_is_held version version_laws v parts (length parts) (omega arith) all in
      record {
        faultless = no_fault_before version version_laws v parts (length parts) (omega arith) all;
        place = first.place;
        is = first.is;
        absent = λ named. none_absent (version.value_of v kind) first.passes (held kind named);
        earlier = λ before other below is. held_is_named version version_laws v parts (length parts) (omega arith) all other (is_none_false (version.value_of v other) (first.earlier before other below is));
      }

  -- all pieces are read, and the vector lacks no mandatory metric, or this first
  pub IsReadLeft-complete : (empty : V) → version.front v ≡ version.front empty → None ≡ first_missing version v → IsReadLeft version parts empty (Ok tt) v
  IsReadLeft-complete empty front complete = record { components = components; front = front; complete = IsComplete-from version v (sym complete); rejected = tt; printable = λ utf8. tt }

  pub IsReadLeft-missing : (empty : V) (kind : K) → Some kind ≡ first_missing version v → IsReadLeft version parts empty (Err (MissingMandatoryMetric kind)) v
  IsReadLeft-missing empty kind missing = record {
    components = tt;
    front = tt;
    complete = tt;
    rejected = (record { each = piece_is_component version version_laws v parts components }, IsFirstMissing-from kind missing);
    printable = λ utf8. Contains-missing version v kind (sym missing);
  }
