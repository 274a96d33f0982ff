-- A text that begins with the components of a vector in printing order is read up to their end.
use Rattle.std.proofs.Common.{◌≡◌, ℕ, ◌<◌, All, Ok, List, [], ◌∷◌, ◌++◌, None, append_assoc, append-nil, false, drop, flat_map, length, refl, sym, ap, ◌∙◌, subst, take, arith}
use Rattle.std.proofs.lemmas.List.{take-append-drop}
use Rattle.std.proofs.lemmas.List.Concat.{flat_map-append}
use Rattle.std.proofs.lemmas.List.Elements.{All-cons, All-nil}
use Rattle.std.proofs.lemmas.List.Splits.{join_with_byte-slice_split, slice_split-cons_yes}
use Rattle.cvss_base.specs.Text.{slash, pieces, joined}
use Rattle.cvss_base.specs.Version.{Version, AreComponentsOf, canonical_text, components_of}
use Rattle.cvss_text.specs.private.Printing.{text_with_slash, texts_with_slash}
use Rattle.cvss_text.specs.private.Walk.{VersionLaws, HasReadTo, IsBaseTo, IsInOrderTo, IsReadLeft, IsWhole, first_missing}
use Rattle.cvss_text.proofs.CanonicalLemmas.{own_components}
use Rattle.cvss_text.proofs.ComponentLemmas.{IsUncut, are_parts, are_uncut, pieces-all, pieces-then}
use Rattle.cvss_text.proofs.WalkLemmas.{HasReadTo-start, IsReadLeft-complete}
use Rattle.cvss_text.proofs.PrintLemmas.{joined-with_slash}
use Rattle.cvss_text.proofs.TextLemmas.{is_slash}

-- the text of each metric before those of the metrics after it, and the rest
abbrev pub in_turn : {K : Type 0} → (K → List ℕ) → List K → List ℕ → List ℕ
in_turn text_of [] rest = rest
in_turn text_of (kind ∷ kinds) rest = text_of kind ++ in_turn text_of kinds rest

texts_in_turn : {K : Type 0} (text_of : K → List ℕ) (kinds : List K) (rest : List ℕ) → in_turn text_of kinds rest ≡ flat_map text_of kinds ++ rest
texts_in_turn text_of [] rest = refl
texts_in_turn text_of (kind ∷ kinds) rest =
    ap (λ after. text_of kind ++ after) (texts_in_turn text_of kinds rest) ∙ sym (append_assoc (text_of kind) (flat_map text_of kinds) rest)

-- a text that has nothing after the components
pub IsInOrderTo-end : {V K : Type 0} (version : Version V K) (front : List (List ℕ)) (text : List ℕ) (v : V) (rest : List ℕ) → length rest < 1 → IsInOrderTo version front text v rest → IsInOrderTo version front text v []
IsInOrderTo-end version front text v [] none is = is
IsInOrderTo-end version front text v (byte ∷ rest) none is = absurd (omega (arith, none))

module _ {V K : Type 0} (version : Version V K) (version_laws : VersionLaws version) (v : V) (text : List ℕ) where
  own_parts : List (List ℕ)
  own_parts = components_of version v

  own : AreComponentsOf version own_parts v
  unfolding own_parts
  own = own_components version version_laws v

  -- such a text after a slash: a piece without bytes, the vector's components, and what is left
  pieces_from : (tail : List ℕ) (left : List (List ℕ)) → (pieces (joined ([] ∷ own_parts) ++ tail) ≡ [] ∷ (own_parts ++ left)) → slash ∷ text ≡ texts_with_slash version v version.printed ++ tail → pieces text ≡ own_parts ++ left
  unfolding own_parts
  pieces_from tail left joins is =
      let both : [] ∷ pieces text ≡ [] ∷ (own_parts ++ left) =
      sym (slice_split-cons_yes is_slash slash text refl) ∙ ap pieces (is ∙ ap (λ begun. begun ++ tail) (sym (joined-with_slash version v [] version.printed))) ∙ joins in
      cc

  uncut_parts : All IsUncut ([] ∷ own_parts)
  uncut_parts = All-cons IsUncut [] own_parts (All-nil (λ byte. is_slash byte ≡ false)) (are_uncut own_parts (are_parts version version_laws v own_parts own))

  pub HasReadTo-begun : (rest : List ℕ) → slash ∷ text ≡ texts_with_slash version v version.printed ++ slash ∷ rest → HasReadTo version (pieces text) (pieces rest) v
  HasReadTo-begun rest is = record { before = own_parts; cut = pieces_from (slash ∷ rest) (pieces rest) (pieces-then [] own_parts rest uncut_parts) is; components = own }

  own_pieces : slash ∷ text ≡ texts_with_slash version v version.printed ++ [] → pieces text ≡ own_parts
  own_pieces is =
      pieces_from [] [] (ap pieces (append-nil (joined ([] ∷ own_parts))) ∙ pieces-all [] own_parts uncut_parts ∙ ap (λ parts. [] ∷ parts) (sym (append-nil own_parts))) is
      ∙ append-nil own_parts

  pub HasReadTo-end : (rest : List ℕ) → length rest ≡ 0 → slash ∷ text ≡ texts_with_slash version v version.printed ++ rest → HasReadTo version (pieces text) [] v
  HasReadTo-end [] none is = record { before = own_parts; cut = own_pieces is ∙ sym (append-nil own_parts); components = own }
  HasReadTo-end (byte ∷ rest) none is = absurd (omega (arith, none))

  -- a text that is the components of a complete vector is read
  module _ (front : List (List ℕ)) (is : IsWhole version front text v) where
    pub IsReadLeft-whole : (empty : V) → front ≡ version.front empty → IsReadLeft version (pieces text) empty (Ok tt) v
    IsReadLeft-whole empty of =
        IsReadLeft-complete version version_laws (pieces text) v (subst (λ parts. AreComponentsOf version parts v) (sym (own_pieces is.in_order.is)) own) empty (is.in_order.front_is ∙ of) (sym is.present)

    -- and so is the text that has it after the front the canonical one
    pub canonical_whole : (whole : List ℕ) → pieces whole ≡ front ++ pieces text → whole ≡ canonical_text version v
    unfolding own_parts
    canonical_whole whole cut =
        sym (join_with_byte-slice_split slash whole)
        ∙ ap joined (cut ∙ (ap (λ front. front ++ pieces text) (sym is.in_order.front_is) ∙ ap (λ parts. version.front v ++ parts) (own_pieces is.in_order.is)))

-- the optional metrics that are read after the base metrics
module _ {V K : Type 0} (version : Version V K) (count : ℕ) where
  abbrev base_of : V → List ℕ
  base_of v = texts_with_slash version v (take count version.printed)

  abbrev others_of : V → List ℕ
  others_of v = texts_with_slash version v (drop count version.printed)

  base_and_others : (v : V) → texts_with_slash version v version.printed ≡ base_of v ++ others_of v
  base_and_others v =
      sym (ap (texts_with_slash version v) (take-append-drop count version.printed)) ∙ flat_map-append (text_with_slash version v) (take count version.printed) (drop count version.printed)

  with_base : (v : V) (rest : List ℕ) → others_of v ≡ [] → base_of v ++ rest ≡ texts_with_slash version v version.printed ++ rest
  with_base v rest bare = ap (λ all. all ++ rest) (sym (base_and_others v ∙ (ap (λ others. base_of v ++ others) bare ∙ append-nil (base_of v))))

  -- a text that begins with what each base metric of the vector is printed as
  pub IsBaseTo-turns : {HasBase : V → Type 0} {front : List (List ℕ)} {v : V} {text rest : List ℕ} → slash ∷ text ≡ in_turn (text_with_slash version v) (take count version.printed) rest
      → version.front v ≡ front → first_missing version v ≡ None → HasBase v → others_of v ≡ [] → IsBaseTo version count HasBase front text v rest
  IsBaseTo-turns {v = v} {rest = rest} is front present has_base bare = record {
    in_order = record { is = is ∙ (texts_in_turn (text_with_slash version v) (take count version.printed) rest ∙ with_base v rest bare); front_is = front };
    present = present;
    has_base = has_base;
    bare = bare;
  }

  -- a text is in order to where the optional metrics that are read after the base metrics end
  pub IsInOrderTo-others : (base new : V) (text rest : List ℕ) → others_of base ≡ [] → text ≡ others_of new ++ rest → base_of new ≡ base_of base → version.front new ≡ version.front base → (front : List (List ℕ)) (begun : List ℕ) → IsInOrderTo version front begun base text → IsInOrderTo version front begun new rest
  IsInOrderTo-others base new text rest bare others same kept front begun is = record {
    is = is.is ∙ (rw (base_and_others base, bare, append-nil (base_of base), sym same, others) (sym (append_assoc (base_of new) (others_of new) rest)) ∙ ap (λ all. all ++ rest) (sym (base_and_others new)));
    front_is = kept ∙ is.front_is;
  }

pub ruleset begun = (HasReadTo-begun, HasReadTo-end, HasReadTo-start, tt)
