-- The most severe effective values of each class, which the specification calls its highest severity vectors: CVSS
-- v4.0 specification, section 8.2.
use Rattle.std.specs.Prelude.{ℕ, zero, suc, List, [], ◌∷◌}
use Rattle.cvss_score.specs.v4.Classes.{Eq1Values, Eq2Values, Eq3Eq6Values, Eq4Values}
use Rattle.cvss_score.specs.v4.Levels.{attack_vector_level, privileges_level, interaction_level, complexity_level, requirements_level, vulnerable_level, subsequent_level, safety_level, requirement_level}
use Rattle.cvss_score.specs.declared.v4.scoring.effective.AttackVector.TheVariants.{Network, Adjacent, Physical}
use Rattle.cvss_score.specs.declared.v4.scoring.effective.PrivilegesRequired.TheVariants as pr
use Rattle.cvss_score.specs.declared.v4.scoring.effective.UserInteraction.TheVariants as ui
use Rattle.cvss_score.specs.declared.v4.scoring.effective.AttackComplexity.TheVariants as ac
use Rattle.cvss_score.specs.declared.v4.scoring.effective.AttackRequirements.TheVariants as at
use Rattle.cvss_score.specs.declared.v4.scoring.effective.VulnerableImpact.TheVariants as impact
use Rattle.cvss_score.specs.declared.v4.scoring.effective.SubsequentImpact.TheVariants as sc
use Rattle.cvss_score.specs.declared.v4.scoring.effective.SafetyImpact.TheVariants as safety
use Rattle.cvss_score.specs.declared.v4.scoring.effective.Requirement.TheVariants as requirement

-- the levels of AV, PR and UI
abbrev pub eq1_levels : Eq1Values → List ℕ
eq1_levels v = attack_vector_level v.0 ∷ privileges_level v.1 ∷ interaction_level v.2 ∷ []

-- the highest severity vectors of the classes 0, 1 and 2 of EQ1
abbrev pub eq1_maximal : ℕ → List Eq1Values
eq1_maximal zero = (Network, pr.None, ui.None) ∷ []
eq1_maximal (suc zero) = (Adjacent, pr.None, ui.None) ∷ (Network, pr.Low, ui.None) ∷ (Network, pr.None, ui.Passive) ∷ []
eq1_maximal (suc (suc _)) = (Physical, pr.None, ui.None) ∷ (Adjacent, pr.Low, ui.Passive) ∷ []

-- the levels of AC and AT
abbrev pub eq2_levels : Eq2Values → List ℕ
eq2_levels v = complexity_level v.0 ∷ requirements_level v.1 ∷ []

-- the highest severity vectors of the classes 0 and 1 of EQ2
abbrev pub eq2_maximal : ℕ → List Eq2Values
eq2_maximal zero = (ac.Low, at.None) ∷ []
eq2_maximal (suc _) = (ac.High, at.None) ∷ (ac.Low, at.Present) ∷ []

-- the levels of VC, VI, VA, CR, IR and AR
abbrev pub eq3_eq6_levels : Eq3Eq6Values → List ℕ
eq3_eq6_levels v =
    vulnerable_level v.0 ∷ vulnerable_level v.1 ∷ vulnerable_level v.2
    ∷ requirement_level v.3 ∷ requirement_level v.4 ∷ requirement_level v.5 ∷ []

-- the highest severity vectors of the classes 0,0, 0,1, 1,0, 1,1 and 2,1 of EQ3 with EQ6
abbrev pub eq3_eq6_maximal : ℕ → ℕ → List Eq3Eq6Values
eq3_eq6_maximal zero zero =
    (impact.High, impact.High, impact.High, requirement.High, requirement.High, requirement.High) ∷ []
eq3_eq6_maximal zero (suc _) =
    (impact.High, impact.High, impact.Low, requirement.Medium, requirement.Medium, requirement.High)
    ∷ (impact.High, impact.High, impact.High, requirement.Medium, requirement.Medium, requirement.Medium) ∷ []
eq3_eq6_maximal (suc zero) zero =
    (impact.Low, impact.High, impact.High, requirement.High, requirement.High, requirement.High)
    ∷ (impact.High, impact.Low, impact.High, requirement.High, requirement.High, requirement.High) ∷ []
eq3_eq6_maximal (suc zero) (suc _) =
    (impact.Low, impact.High, impact.Low, requirement.High, requirement.Medium, requirement.High)
    ∷ (impact.Low, impact.High, impact.High, requirement.High, requirement.Medium, requirement.Medium)
    ∷ (impact.High, impact.Low, impact.High, requirement.Medium, requirement.High, requirement.Medium)
    ∷ (impact.High, impact.Low, impact.Low, requirement.Medium, requirement.High, requirement.High)
    ∷ (impact.Low, impact.Low, impact.High, requirement.High, requirement.High, requirement.Medium) ∷ []
eq3_eq6_maximal (suc (suc _)) _ =
    (impact.Low, impact.Low, impact.Low, requirement.High, requirement.High, requirement.High) ∷ []

-- the levels of SC, SI and SA
abbrev pub eq4_levels : Eq4Values → List ℕ
eq4_levels v = subsequent_level v.0 ∷ safety_level v.1 ∷ safety_level v.2 ∷ []

-- the highest severity vectors of the classes 0, 1 and 2 of EQ4
abbrev pub eq4_maximal : ℕ → List Eq4Values
eq4_maximal zero = (sc.High, safety.Safety, safety.Safety) ∷ []
eq4_maximal (suc zero) = (sc.High, safety.High, safety.High) ∷ []
eq4_maximal (suc (suc _)) = (sc.Low, safety.Low, safety.Low) ∷ []
