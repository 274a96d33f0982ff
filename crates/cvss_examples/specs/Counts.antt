-- How many items of a list are of a kind.
use Rattle.std.specs.Prelude.{◌≡◌, ◌⊎◌, ◌+◌, ℕ, List, [], ◌∷◌}

-- of so many items this holds, and of the others it does not
abbrev pub IsCountOf : {X : Type 0} → (X → Type 0) → List X → ℕ → Type 0
IsCountOf Holds [] count = count ≡ 0
IsCountOf Holds (item ∷ items) count =
    ((others : ℕ) × Holds item × IsCountOf Holds items others × (count ≡ others + 1))
    ⊎ (¬ (Holds item) × IsCountOf Holds items count)
