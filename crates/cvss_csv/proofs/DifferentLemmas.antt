-- The texts that are kept, one after another.
use Rattle.std.specs.Global.{Vec}
use Rattle.std.proofs.Common.{All, ◌≡◌, ◌↔◌, ℕ, Bool, IsTrue, None, Option, Some, unwrap_or, List, [], ◌∷◌, ◌++◌, refl, sym, ap, ◌∙◌, subst, append_assoc, append-nil, inl, inr}
use Rattle.std.proofs.lemmas.List.{map-append}
use Rattle.std.proofs.lemmas.List.Elements.{All-head, All-tail}
use Rattle.cvss_vector.specs.Answers.{text_of}
use Rattle.cvss_vector.specs.Dispatch.{DenotesCvss}
use Rattle.cvss_vector.specs.declared.vector.Cvss.{Cvss}
use Rattle.cvss_csv.specs.Cells.{AreEqual}
use Rattle.cvss_csv.specs.Rows.{AreDifferent, HasEqual}
use Rattle.cvss_csv.specs.Tallies.{IsCanonicalOf, IsRead, kept_in}
use Rattle.cvss_csv.specs.declared.different.Kept.{Kept}

-- ---- whether two texts count as one vector

module _ (one other : List ℕ) where
  -- where both denote one
  pub equal_vectors : (a b : Vec ℕ) (same : Bool) → IsCanonicalOf (Some a) one → IsCanonicalOf (Some b) other → (IsTrue same ↔ (a.items ≡ b.items)) → IsTrue same ↔ AreEqual one other
  equal_vectors a b same first second iff = (
    λ holds. inr (record { first = first.0; second = second.0; denoted = first.1; also = second.1; same = sym first.3 ∙ iff.0 holds ∙ second.3 }),
    λ equal. iff.1 (first.3 ∙ one_text equal ∙ sym second.3),
  ) where
    inside : (x y : Cvss) → Some x ≡ Some y → text_of x ≡ text_of y
    inside x y is = ap (λ (found : Option Cvss). text_of (unwrap_or found x)) is

    one_text : AreEqual one other → text_of first.0 ≡ text_of second.0
    one_text (inl is) = inside first.0 second.0 (first.2 second.0 (subst (λ text. DenotesCvss text second.0) (sym is) second.1))
    one_text (inr both) = inside first.0 both.first (first.2 both.first both.denoted) ∙ both.same ∙ sym (inside second.0 both.second (second.2 both.second both.also))

  -- where neither does
  pub equal_texts : (same : Bool) → IsCanonicalOf None one → (IsTrue same ↔ (one ≡ other)) → IsTrue same ↔ AreEqual one other
  equal_texts same none iff = (
    λ holds. inl (iff.0 holds),
    λ equal. elim equal [ inl is ↦ iff.1 is | inr both ↦ absurd (none both.first both.denoted) ],
  )

  -- where one does
  pub only_first : (a : Vec ℕ) → IsCanonicalOf (Some a) one → IsCanonicalOf None other → ¬ (AreEqual one other)
  only_first a first none (inl is) = none first.0 (subst (λ text. DenotesCvss text first.0) is first.1)
  only_first a first none (inr both) = none both.second both.also

  pub only_second : (b : Vec ℕ) → IsCanonicalOf None one → IsCanonicalOf (Some b) other → ¬ (AreEqual one other)
  only_second b none second (inl is) = none second.0 (subst (λ text. DenotesCvss text second.0) (sym is) second.1)
  only_second b none second (inr both) = none both.first both.denoted

-- ---- whether a text counts as one vector with one of these

module _ (text : List ℕ) (all left : List (List ℕ)) (before : HasEqual left text ↔ HasEqual all text) where
  pub equal_here : (kept : List ℕ) (rest : List (List ℕ)) → left ≡ kept ∷ rest → AreEqual kept text → HasEqual all text
  equal_here kept rest is equal = before.0 (subst (λ ts. HasEqual ts text) (sym is) (inl equal))

  pub equal_later : (kept : List ℕ) (rest : List (List ℕ)) → left ≡ kept ∷ rest → ¬ (AreEqual kept text) → HasEqual rest text ↔ HasEqual all text
  equal_later kept rest is other = (
    λ later. before.0 (subst (λ ts. HasEqual ts text) (sym is) (inr later)),
    λ one. elim (subst (λ ts. HasEqual ts text) is (before.1 one)) [ inl equal ↦ absurd (other equal) | inr later ↦ later ],
  )

  pub equal_none : left ≡ [] → ¬ (HasEqual all text)
  equal_none none one = subst (λ ts. HasEqual ts text) none (before.1 one)

-- what is compared with a text: some of these, which are left, and none before
pub record HasCompared (all left : List Kept) (text : List ℕ) : Type 0 where
  pub read : All IsRead left
  pub same : HasEqual (kept_in left) text ↔ HasEqual (kept_in all) text

pub compared_start : (all : List Kept) (text : List ℕ) → All IsRead all → HasCompared all all text
compared_start all text read = record { read = read; same = (λ is. is, λ is. is) }

module _ {all left : List Kept} {text : List ℕ} (before : HasCompared all left text) (kept : Kept) (rest : List Kept) (is : left ≡ kept ∷ rest) where
  pub compared_read : IsRead kept
  compared_read = All-head IsRead kept rest (subst (All IsRead) is before.read)

  pub compared_here : AreEqual kept.text.items text → HasEqual (kept_in all) text
  compared_here = equal_here text (kept_in all) (kept_in left) before.same kept.text.items (kept_in rest) (ap kept_in is)

  pub compared_next : ¬ (AreEqual kept.text.items text) → HasCompared all rest text
  compared_next other = record {
    read = All-tail IsRead kept rest (subst (All IsRead) is before.read);
    same = equal_later text (kept_in all) (kept_in left) before.same kept.text.items (kept_in rest) (ap kept_in is) other;
  }

pub compared_none : (all left : List Kept) (text : List ℕ) → HasCompared all left text → left ≡ [] → ¬ (HasEqual (kept_in all) text)
compared_none all left text before none = equal_none text (kept_in all) (kept_in left) before.same (ap kept_in none)

-- ---- one text more

pub kept_push : (all : List Kept) (one : Kept) → kept_in all ++ one.text.items ∷ [] ≡ kept_in (all ++ one ∷ [])
kept_push all one = sym (map-append (λ (kept : Kept). kept.text.items) all (one ∷ []))

moved : (before : List (List ℕ)) (first : List ℕ) (own more : List (List ℕ)) → own ≡ first ∷ more → before ++ own ≡ (before ++ first ∷ []) ++ more
moved before first own more is = ap (λ ts. before ++ ts) is ∙ sym (append_assoc before (first ∷ []) more)

module _ (text : List ℕ) where
  -- that counts as one vector with one before it
  pub different_known : (before texts own : List (List ℕ)) → AreDifferent before texts own → HasEqual (before ++ own) text → AreDifferent before (texts ++ text ∷ []) own
  different_known before [] own is known = inl (subst (λ ts. HasEqual ts text) (ap (λ ts. before ++ ts) is ∙ append-nil before) known, is)
  different_known before (first ∷ texts) own (inl passed) known = inl (passed.0, different_known before texts own passed.1 known)
  different_known before (first ∷ texts) own (inr kept) known =
      inr (kept.0, kept.1, kept.2, different_known (before ++ first ∷ []) texts kept.0 kept.3 (subst (λ ts. HasEqual ts text) (moved before first own kept.0 kept.2) known))

  -- that counts as one with none
  pub different_new : (before texts own : List (List ℕ)) → AreDifferent before texts own → ¬ (HasEqual (before ++ own) text) → AreDifferent before (texts ++ text ∷ []) (own ++ text ∷ [])
  different_new before [] own is new =
      inr ([], λ known. new (subst (λ ts. HasEqual ts text) (sym (ap (λ ts. before ++ ts) is ∙ append-nil before)) known), ap (λ ts. ts ++ text ∷ []) is, refl)
  different_new before (first ∷ texts) own (inl passed) new = inl (passed.0, different_new before texts own passed.1 new)
  different_new before (first ∷ texts) own (inr kept) new =
      inr (
        kept.0 ++ text ∷ [],
        kept.1,
        ap (λ ts. ts ++ text ∷ []) kept.2,
        different_new (before ++ first ∷ []) texts kept.0 kept.3 (λ known. new (subst (λ ts. HasEqual ts text) (sym (moved before first own kept.0 kept.2)) known)),
      )
