-- Texts that are joined one after another.
use Rattle.std.proofs.Common.{◌+◌, ◌<◌, ℕ, List, [], ◌∷◌, ◌++◌, ◌∙◌, ap, append_assoc, append-nil, get_or, length, map, refl, subst, sym, take}
use Rattle.std.proofs.lemmas.List.{take_more}
use Rattle.cvss_explain.specs.Lines.{Joins}
use Rattle.cvss_explain.specs.private.Writing.{Writes}

joins_last : {X : Type 0} (Holds : X → List ℕ → Type 0) (items : List X) (last : X) (text next : List ℕ)
    → Joins Holds items text → Holds last next → Joins Holds (items ++ last ∷ []) (text ++ next)
joins_last Holds [] last text next none holds = (next, [], holds, refl, ap (λ front. front ++ next) none ∙ sym (append-nil next))
joins_last Holds (item ∷ items) last text next (first, rest, is_first, are, joined) holds =
    (first, rest ++ next, is_first, joins_last Holds items last rest next are holds, ap (λ front. front ++ next) joined ∙ append_assoc first rest next)

-- one more item after others
writes_last : {X : Type 0} (Holds : X → List ℕ → Type 0) (items : List X) (last : X) (old mid new : List ℕ)
    → Writes (Joins Holds items) old mid → Writes (Holds last) mid new → Writes (Joins Holds (items ++ last ∷ [])) old new
writes_last Holds items last old mid new before next = record {
  text = before.text ++ next.text;
  holds = joins_last Holds items last before.text next.text before.holds next.holds;
  written = next.written ∙ ap (λ front. front ++ next.text) before.written ∙ append_assoc old before.text next.text;
}

-- the next of the items
pub writes_next : {X : Type 0} (Holds : X → List ℕ → Type 0) (items : List X) (index : ℕ) (default : X) (old mid new : List ℕ) → index < length items
    → Writes (Joins Holds (take index items)) old mid → Writes (Holds (get_or items index default)) mid new → Writes (Joins Holds (take (index + 1) items)) old new
writes_next Holds items index default old mid new below before next =
    subst (λ items. Writes (Joins Holds items) old new) (sym (take_more items index default below))
    (writes_last Holds (take index items) (get_or items index default) old mid new before next)

-- items that are views of others
pub joins_views : {X Y : Type 0} (Holds : Y → List ℕ → Type 0) (view : X → Y) (items : List X) (text : List ℕ)
    → Joins (λ item. Holds (view item)) items text → Joins Holds (map view items) text
joins_views Holds view [] text none = none
joins_views Holds view (item ∷ items) text (first, rest, is_first, are, joined) =
    (first, rest, is_first, joins_views Holds view items rest are, joined)
