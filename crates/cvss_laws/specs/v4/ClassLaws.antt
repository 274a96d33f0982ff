-- What the laws of the classes of CVSS v4 say: v4.0 specification, section 8.2.
use Rattle.std.specs.Prelude.{◌≡◌, ℕ, List, ℤ, pos, ◌+ℤ◌, ◌<ℤ◌}
use Rattle.std.specs.List.{All, Any}
use Rattle.cvss_score.specs.AtMost.{IsAtMost}
use Rattle.cvss_score.specs.declared.v4.scoring.effective.Effective.{Effective}

-- some listed values have no level above that of these
abbrev pub IsDominated : {V : Type 0} → (V → List ℕ) → List V → V → Type 0
IsDominated levels maximal v = Any (λ m. IsAtMost (levels m) (levels v)) maximal

-- all listed values are of the class and have its least level sum
abbrev pub HaveLeastSum : {V : Type 0} → (V → Type 0) → (V → ℕ) → List V → ℕ → Type 0
HaveLeastSum IsOfClass sum_of maximal least = All (λ m. IsOfClass m × (sum_of m ≡ least)) maximal

-- the depth of a class is above each distance in it, and by 1 above one of them
pub record IsDepth (IsOfClass : Effective → Type 0) (distance : Effective → ℤ) (depth : ℕ) : Type 0 where
  pub above : (v : Effective) → IsOfClass v → distance v <ℤ pos depth
  pub farthest : Effective
  pub of_class : IsOfClass farthest
  pub next : distance farthest +ℤ pos 1 ≡ pos depth
