-- Counting one item more.
use Rattle.std.proofs.Common.{◌≤◌, inl, inr, refl, ap, ℕ, ◌+◌, List, [], ◌∷◌, ◌++◌, length, arith}
use Rattle.cvss_examples.specs.Counts.{IsCountOf}

pub IsCountOf-push : {X : Type 0} (Holds : X → Type 0) (items : List X) (item : X) (count : ℕ) → IsCountOf Holds items count → Holds item → IsCountOf Holds (items ++ item ∷ []) (count + 1)
IsCountOf-push Holds [] item count counted holds = inl (0, holds, refl, ap (λ n. n + 1) counted)
IsCountOf-push Holds (first ∷ items) item count counted holds = elim counted [
  | inl one ↦ inl (one.0 + 1, one.1, IsCountOf-push Holds items item one.0 one.2 holds, ap (λ n. n + 1) one.3)
  | inr other ↦ inr (other.0, IsCountOf-push Holds items item count other.1 holds)
]

pub IsCountOf-skip : {X : Type 0} (Holds : X → Type 0) (items : List X) (item : X) (count : ℕ) → IsCountOf Holds items count → ¬ (Holds item) → IsCountOf Holds (items ++ item ∷ []) count
IsCountOf-skip Holds [] item count counted not = inr (not, counted)
IsCountOf-skip Holds (first ∷ items) item count counted not = elim counted [
  | inl one ↦ inl (one.0, one.1, IsCountOf-skip Holds items item one.0 one.2 not, one.3)
  | inr other ↦ inr (other.0, IsCountOf-skip Holds items item count other.1 not)
]

pub IsCountOf-le-length : {X : Type 0} (Holds : X → Type 0) (items : List X) (count : ℕ) → IsCountOf Holds items count → count ≤ length items
IsCountOf-le-length Holds [] count counted = omega (arith, counted)
IsCountOf-le-length Holds (first ∷ items) count counted = elim counted [
  | inl one ↦ omega (arith, one.3, IsCountOf-le-length Holds items one.0 one.2)
  | inr other ↦ omega (arith, IsCountOf-le-length Holds items count other.1)
]
