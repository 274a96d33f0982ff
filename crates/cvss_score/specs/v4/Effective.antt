-- The effective values of each metric by their letters, the most severe first: CVSS v4.0 specification, sections 2 to 4.
use Rattle.std.specs.Prelude.{ℕ, List, [], ◌∷◌, codes, map, find, bytes_eq}
use Rattle.std.specs.Option.{option_map_or}
use Rattle.cvss_score.specs.declared.v4.scoring.effective.AttackVector.{AttackVector}
use Rattle.cvss_score.specs.declared.v4.scoring.effective.AttackVector.TheVariants as attack_vector
use Rattle.cvss_score.specs.declared.v4.scoring.effective.PrivilegesRequired.{PrivilegesRequired}
use Rattle.cvss_score.specs.declared.v4.scoring.effective.PrivilegesRequired.TheVariants as privileges_required
use Rattle.cvss_score.specs.declared.v4.scoring.effective.UserInteraction.{UserInteraction}
use Rattle.cvss_score.specs.declared.v4.scoring.effective.UserInteraction.TheVariants as user_interaction
use Rattle.cvss_score.specs.declared.v4.scoring.effective.AttackComplexity.{AttackComplexity}
use Rattle.cvss_score.specs.declared.v4.scoring.effective.AttackComplexity.TheVariants as attack_complexity
use Rattle.cvss_score.specs.declared.v4.scoring.effective.AttackRequirements.{AttackRequirements}
use Rattle.cvss_score.specs.declared.v4.scoring.effective.AttackRequirements.TheVariants as attack_requirements
use Rattle.cvss_score.specs.declared.v4.scoring.effective.VulnerableImpact.{VulnerableImpact}
use Rattle.cvss_score.specs.declared.v4.scoring.effective.VulnerableImpact.TheVariants as vulnerable_impact
use Rattle.cvss_score.specs.declared.v4.scoring.effective.SubsequentImpact.{SubsequentImpact}
use Rattle.cvss_score.specs.declared.v4.scoring.effective.SubsequentImpact.TheVariants as subsequent_impact
use Rattle.cvss_score.specs.declared.v4.scoring.effective.SafetyImpact.{SafetyImpact}
use Rattle.cvss_score.specs.declared.v4.scoring.effective.SafetyImpact.TheVariants as safety_impact
use Rattle.cvss_score.specs.declared.v4.scoring.effective.Requirement.{Requirement}
use Rattle.cvss_score.specs.declared.v4.scoring.effective.Requirement.TheVariants as requirement
use Rattle.cvss_score.specs.declared.v4.scoring.effective.ExploitMaturity.{ExploitMaturity}
use Rattle.cvss_score.specs.declared.v4.scoring.effective.ExploitMaturity.TheVariants as exploit_maturity

-- what counts where nothing is defined, and letters, each with the effective value that it stands for; a complete vector
-- defines each base metric, so of these the first is never reached
pub record Letters (E : Type 0) : Type 0 where
  pub undefined : E
  pub rows : List (List ℕ × E)

-- AV
abbrev pub attack_vectors : Letters AttackVector
attack_vectors = record { undefined = attack_vector.Network; rows = (codes "N", attack_vector.Network) ∷ (codes "A", attack_vector.Adjacent) ∷ (codes "L", attack_vector.Local) ∷ (codes "P", attack_vector.Physical) ∷ [] }

-- PR
abbrev pub privileges : Letters PrivilegesRequired
privileges = record { undefined = privileges_required.None; rows = (codes "N", privileges_required.None) ∷ (codes "L", privileges_required.Low) ∷ (codes "H", privileges_required.High) ∷ [] }

-- UI
abbrev pub user_interactions : Letters UserInteraction
user_interactions = record { undefined = user_interaction.None; rows = (codes "N", user_interaction.None) ∷ (codes "P", user_interaction.Passive) ∷ (codes "A", user_interaction.Active) ∷ [] }

-- AC
abbrev pub attack_complexities : Letters AttackComplexity
attack_complexities = record { undefined = attack_complexity.Low; rows = (codes "L", attack_complexity.Low) ∷ (codes "H", attack_complexity.High) ∷ [] }

-- AT
abbrev pub all_attack_requirements : Letters AttackRequirements
all_attack_requirements = record { undefined = attack_requirements.None; rows = (codes "N", attack_requirements.None) ∷ (codes "P", attack_requirements.Present) ∷ [] }

-- VC, VI and VA
abbrev pub vulnerable_impacts : Letters VulnerableImpact
vulnerable_impacts = record { undefined = vulnerable_impact.High; rows = (codes "H", vulnerable_impact.High) ∷ (codes "L", vulnerable_impact.Low) ∷ (codes "N", vulnerable_impact.None) ∷ [] }

-- SC; where it is modified, N is Negligible
abbrev pub subsequent_impacts : Letters SubsequentImpact
subsequent_impacts = record { undefined = subsequent_impact.High; rows = (codes "H", subsequent_impact.High) ∷ (codes "L", subsequent_impact.Low) ∷ (codes "N", subsequent_impact.None) ∷ [] }

-- SI and SA; where they are modified, N is Negligible and S is Safety
abbrev pub safety_impacts : Letters SafetyImpact
safety_impacts = record { undefined = safety_impact.High; rows = (codes "S", safety_impact.Safety) ∷ (codes "H", safety_impact.High) ∷ (codes "L", safety_impact.Low) ∷ (codes "N", safety_impact.None) ∷ [] }

-- CR, IR and AR
abbrev pub requirements : Letters Requirement
requirements = record { undefined = requirement.High; rows = (codes "H", requirement.High) ∷ (codes "M", requirement.Medium) ∷ (codes "L", requirement.Low) ∷ [] }

-- E
abbrev pub exploit_maturities : Letters ExploitMaturity
exploit_maturities = record { undefined = exploit_maturity.Attacked; rows = (codes "A", exploit_maturity.Attacked) ∷ (codes "P", exploit_maturity.ProofOfConcept) ∷ (codes "U", exploit_maturity.Unreported) ∷ [] }

-- the values of all letters
abbrev pub values : {E : Type 0} → Letters E → List E
values letters = map (λ row. row.1) letters.rows

-- the value that a letter stands for; X, which is none of the letters, for what counts where nothing is defined
abbrev pub meaning : {E : Type 0} → Letters E → List ℕ → E
meaning letters text = option_map_or (λ row. row.1) (find (λ row. bytes_eq row.0 text) letters.rows) letters.undefined
