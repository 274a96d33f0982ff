-- The vectors that are found, counted one after another.
use Rattle.std.proofs.Common.{◌≡◌, ◌↔◌, ℕ, Bool, IsTrue, List, [], ◌∷◌, ◌++◌, Some, Option, unwrap_or, sym, ap, ◌∙◌}
use Rattle.cvss_vector.specs.Answers.{text_of}
use Rattle.cvss_vector.specs.Dispatch.{DenotesCvss}
use Rattle.cvss_vector.specs.declared.vector.Cvss.{Cvss}
use Rattle.cvss_csv.specs.Cells.{AreAllEqual, AreEqual, DenoteOneVector}
use Rattle.cvss_csv.specs.declared.tally.Count.TheVariants as count
use Rattle.cvss_csv.specs.Tallies.{IsCountOf}

module _ (first text : List ℕ) where
  equal_push : (texts : List (List ℕ)) → AreAllEqual first texts → AreEqual first text → AreAllEqual first (texts ++ text ∷ [])
  equal_push [] all last = (last, tt)
  equal_push (each ∷ texts) all last = (all.0, equal_push texts all.1 last)

  equal_last : (texts : List (List ℕ)) → AreAllEqual first (texts ++ text ∷ []) → AreEqual first text
  equal_last [] all = all.0
  equal_last (each ∷ texts) all = equal_last texts all.1

  equal_front : (texts : List (List ℕ)) → AreAllEqual first (texts ++ text ∷ []) → AreAllEqual first texts
  equal_front [] all = tt
  equal_front (each ∷ texts) all = (all.0, equal_front texts all.1)

  -- one more that is equal to the first
  pub adds_equal : (texts : List (List ℕ)) → IsCountOf count.One first texts → AreEqual first text → IsCountOf count.One first (texts ++ text ∷ [])
  adds_equal texts is last = (is.0 ++ text ∷ [], ap (λ ts. ts ++ text ∷ []) is.1, equal_push is.0 is.2 last)

  -- one more that is not
  pub adds_other : (texts : List (List ℕ)) → IsCountOf count.One first texts → ¬ (AreEqual first text) → IsCountOf count.Several first (texts ++ text ∷ [])
  adds_other texts is other = (is.0 ++ text ∷ [], ap (λ ts. ts ++ text ∷ []) is.1, λ all. other (equal_last is.0 all))

  -- one more, where there are several
  pub adds_several : (texts : List (List ℕ)) → IsCountOf count.Several first texts → IsCountOf count.Several first (texts ++ text ∷ [])
  adds_several texts is = (is.0 ++ text ∷ [], ap (λ ts. ts ++ text ∷ []) is.1, λ all. is.2 (equal_front is.0 all))

-- the first
pub adds_first : (first : List ℕ) (texts : List (List ℕ)) → texts ≡ [] → IsCountOf count.One first (texts ++ first ∷ [])
adds_first first texts none = ([], ap (λ ts. ts ++ first ∷ []) none, tt)

-- texts that denote these vectors and no others denote one vector exactly if these have one canonical text
pub denote_if : (one other : List ℕ) (first second : Cvss) (same : Bool) → DenotesCvss one first → DenotesCvss other second
    → ((cvss : Cvss) → DenotesCvss one cvss → Some first ≡ Some cvss) → ((cvss : Cvss) → DenotesCvss other cvss → Some second ≡ Some cvss)
    → (IsTrue same ↔ (text_of first ≡ text_of second)) → IsTrue same ↔ DenoteOneVector one other
denote_if one other first second same denoted also only_first only_second iff = (
  λ holds. record { first = first; second = second; denoted = denoted; also = also; same = iff.0 holds },
  λ both. iff.1 (ap text_of (inside first both.first (only_first both.first both.denoted)) ∙ both.same ∙ sym (ap text_of (inside second both.second (only_second both.second both.also)))),
) where
  inside : (x y : Cvss) → Some x ≡ Some y → x ≡ y
  inside x y is = ap (λ (found : Option Cvss). unwrap_or found x) is
