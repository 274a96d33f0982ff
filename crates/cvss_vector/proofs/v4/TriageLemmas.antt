-- Texts whose rows are made one after another.
use Rattle.std.proofs.Common.{◌≡◌, inl, inr, ℕ, ◌+◌, List, [], ◌∷◌, ◌++◌, below_more}
use Rattle.std.proofs.lemmas.Bool.{cases_order}
use Rattle.cvss_base.specs.declared.v4.MetricType.{MetricType}
use Rattle.cvss_base.specs.Rejection.{Rejection, piece_at, IsFirstRejectionAfter}
use Rattle.cvss_vector.specs.declared.v4.vector.Vector.{Vector}
use Rattle.cvss_vector.specs.v4.Vector.{v4}
use Rattle.cvss_vector.specs.v4.TriageFaults.{HasNoRejectionBefore, IsFirstRejected}
use Rattle.cvss_vector.specs.v4.Triage.{IsRow, AreRows}
use Rattle.cvss_vector.specs.declared.v4.triage.row.Row.{Row}

-- one row more
pub AreRows-push : (overrides : Vector) (texts : List (List ℕ)) (rows : List Row) (text : List ℕ) (row : Row) → AreRows overrides texts rows → IsRow overrides text row → AreRows overrides (texts ++ text ∷ []) (rows ++ row ∷ [])
AreRows-push overrides [] [] text row are is = (is, tt)
AreRows-push overrides [] (first ∷ rows) text row are is = absurd are
AreRows-push overrides (first ∷ texts) [] text row are is = absurd are
AreRows-push overrides (first ∷ texts) (other ∷ rows) text row are is =
    (are.0, AreRows-push overrides texts rows text row are.1 is)

-- one text more that is not rejected
pub HasNoRejectionBefore-more : (texts : List (List ℕ)) (place : ℕ) → HasNoRejectionBefore texts place → ((reason : Rejection MetricType) → IsFirstRejectionAfter v4 (piece_at texts place) reason → ⊥) → HasNoRejectionBefore texts (place + 1)
HasNoRejectionBefore-more texts place before none = record {
  none = λ earlier reason below. below_more (λ each. (other : Rejection MetricType) → IsFirstRejectionAfter v4 (piece_at texts each) other → ⊥) place (λ each inside other. before.none each other inside) none earlier below reason;
}

-- the first text that is rejected is at one place
pub first_place_same : (texts : List (List ℕ)) (p q : ℕ) (one other : Rejection MetricType) → IsFirstRejected texts p one → IsFirstRejected texts q other → p ≡ q
first_place_same texts p q one other first second =
    elim (cases_order p q) [ inl same ↦ same | inr apart ↦ elim apart [ inl before ↦ absurd (second.earlier.none p one before first.is) | inr after ↦ absurd (first.earlier.none q other after second.is) ] ]
