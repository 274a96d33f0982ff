-- When the values of metrics are at most as severe as others, by their weights or levels: CVSS v2 guide, section 3.2; v3.1
-- specification, section 7.4; v4.0 specification, section 8.2.
use Rattle.std.specs.Prelude.{ℕ, ◌≤◌, List, [], ◌∷◌}

-- as many numbers, and none above that of the same place
abbrev pub IsAtMost : List ℕ → List ℕ → Type 0
IsAtMost [] [] = Unit {0}
IsAtMost [] (other ∷ others) = ⊥
IsAtMost (number ∷ rest) [] = ⊥
IsAtMost (number ∷ rest) (other ∷ others) = (number ≤ other) × IsAtMost rest others
