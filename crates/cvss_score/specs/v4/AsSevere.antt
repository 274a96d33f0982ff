-- When effective values are at least as severe as others: CVSS v4.0 specification, section 8.2.
use Rattle.std.specs.Prelude.{◌≡◌, ℕ, List, [], ◌∷◌}
use Rattle.cvss_score.specs.AtMost.{IsAtMost}
use Rattle.cvss_score.specs.v4.Classes.{macro_vector}
use Rattle.cvss_score.specs.v4.Levels.{attack_vector_level, privileges_level, interaction_level, complexity_level, requirements_level, vulnerable_level, subsequent_level, safety_level, requirement_level}
use Rattle.cvss_score.specs.declared.v4.scoring.effective.Effective.{Effective}

-- the levels of effective values; E has none
abbrev pub levels : Effective → List ℕ
levels v =
    attack_vector_level v.av ∷ privileges_level v.pr ∷ interaction_level v.ui
    ∷ complexity_level v.ac ∷ requirements_level v.at
    ∷ vulnerable_level v.vc ∷ vulnerable_level v.vi ∷ vulnerable_level v.va
    ∷ subsequent_level v.sc ∷ safety_level v.si ∷ safety_level v.sa
    ∷ requirement_level v.cr ∷ requirement_level v.ir ∷ requirement_level v.ar ∷ []

-- the values are of one class, and no level of the first is above that of the second
pub record IsAsSevere (v w : Effective) : Type 0 where
  pub one_class : macro_vector v ≡ macro_vector w
  pub levels : IsAtMost (levels v) (levels w)
