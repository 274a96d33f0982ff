-- A text denotes at most one vector with a front, and a vector's canonical text denotes it.
use Rattle.std.proofs.Common.{◌≡◌, ℕ, List, [], ◌∷◌, ◌++◌, length, refl, sym, ap, ◌∙◌, subst, arith, All, count_by}
use Rattle.std.proofs.lemmas.List.{append_cancel_left, length-append}
use Rattle.std.proofs.lemmas.List.Elements.{All-head}
use Rattle.std.proofs.lemmas.List.Sorted.{IsPermutation-refl}
use Rattle.cvss_base.specs.Text.{slash, pieces, joined}
use Rattle.cvss_base.specs.Version.{Version, components_of, canonical_text, AreComponentsOf, Denotes}
use Rattle.cvss_text.specs.private.Walk.{VersionLaws}
use Rattle.cvss_text.proofs.DenotesLemmas.{vectors_same}
use Rattle.cvss_text.proofs.TextLemmas.{is_colon, IsPart}
use Rattle.cvss_text.proofs.ComponentLemmas.{pieces-joined, are_parts}

-- a list of parts has a text that is not empty
not_empty : (part : List ℕ) (parts : List (List ℕ)) → All IsPart (part ∷ parts) → [] ≡ joined (part ∷ parts) → ⊥
not_empty part parts are same =
    let cut : ◌≡◌ {A = List (List ℕ)} ([] ∷ []) (part ∷ parts) = ap pieces same ∙ pieces-joined (part ∷ parts) (omega arith) are in
    let empty : [] ≡ part = cc in
    omega (arith, ap (count_by is_colon) empty, (All-head IsPart part parts are).one_colon)

joined_same : (xs ys : List (List ℕ)) → All IsPart xs → All IsPart ys → joined xs ≡ joined ys → xs ≡ ys
joined_same [] [] left right same = refl
joined_same [] (y ∷ ys) left right same = absurd (not_empty y ys right same)
joined_same (x ∷ xs) [] left right same = absurd (not_empty x xs left (sym same))
joined_same (x ∷ xs) (y ∷ ys) left right same =
    sym (pieces-joined (x ∷ xs) (omega arith) left) ∙ (ap pieces same ∙ pieces-joined (y ∷ ys) (omega arith) right)

-- joins with one first piece
cancel_first : (first : List ℕ) (xs ys : List (List ℕ)) → joined (first ∷ xs) ≡ joined (first ∷ ys) → joined xs ≡ joined ys
cancel_first first [] [] same = refl
cancel_first first [] (y ∷ ys) same = absurd (omega (arith, ap length same, length-append first (slash ∷ joined (y ∷ ys))))
cancel_first first (x ∷ xs) [] same = absurd (omega (arith, ap length same, length-append first (slash ∷ joined (x ∷ xs))))
cancel_first first (x ∷ xs) (y ∷ ys) same =
    let rest = append_cancel_left first (slash ∷ joined (x ∷ xs)) (slash ∷ joined (y ∷ ys)) same in cc

cancel_front : (front xs ys : List (List ℕ)) → joined (front ++ xs) ≡ joined (front ++ ys) → joined xs ≡ joined ys
cancel_front [] xs ys same = same
cancel_front (first ∷ front) xs ys same = cancel_front front xs ys (cancel_first first (front ++ xs) (front ++ ys) same)

module _ {V K : Type 0} (version : Version V K) (version_laws : VersionLaws version) where
  pub own_components : (v : V) → AreComponentsOf version (components_of version v) v
  own_components v = record { each_once = IsPermutation-refl _ }

  pub canonical_text-denotes : (v : V) → Denotes version (canonical_text version v) v
  canonical_text-denotes v = record { parts = components_of version v; text_is = refl; components = own_components v }

  pub denoted_once : (v w : V) (text : List ℕ) → version.front v ≡ version.front w → Denotes version text v → Denotes version text w → v ≡ w
  denoted_once v w text front of_v of_w =
      let texts : joined (version.front w ++ of_v.parts) ≡ joined (version.front w ++ of_w.parts) = ap (λ pieces. joined (pieces ++ of_v.parts)) (sym front) ∙ (sym of_v.text_is ∙ of_w.text_is) in
      let parts : of_v.parts ≡ of_w.parts = joined_same _ _ (are_parts version version_laws v of_v.parts of_v.components) (are_parts version version_laws w of_w.parts of_w.components) (cancel_front (version.front w) _ _ texts) in
      vectors_same version version_laws v w of_w.parts front (subst (λ each. AreComponentsOf version each v) parts of_v.components) of_w.components

  pub canonical_text-same : (v w : V) → version.front v ≡ version.front w → canonical_text version v ≡ canonical_text version w → v ≡ w
  canonical_text-same v w front same = denoted_once v w (canonical_text version w) front (subst (λ text. Denotes version text v) same (canonical_text-denotes v)) (canonical_text-denotes w)
