-- The severity levels of the effective values in tenths, the most severe first: CVSS v4.0 specification,
-- section 8.2 (severity distance).
use Rattle.std.specs.Prelude.{ℕ}
use Rattle.cvss_score.specs.declared.v4.scoring.effective.AttackVector.{AttackVector}
use Rattle.cvss_score.specs.declared.v4.scoring.effective.AttackVector.TheVariants as attack_vector
use Rattle.cvss_score.specs.declared.v4.scoring.effective.PrivilegesRequired.{PrivilegesRequired}
use Rattle.cvss_score.specs.declared.v4.scoring.effective.PrivilegesRequired.TheVariants as privileges_required
use Rattle.cvss_score.specs.declared.v4.scoring.effective.UserInteraction.{UserInteraction}
use Rattle.cvss_score.specs.declared.v4.scoring.effective.UserInteraction.TheVariants as user_interaction
use Rattle.cvss_score.specs.declared.v4.scoring.effective.AttackComplexity.{AttackComplexity}
use Rattle.cvss_score.specs.declared.v4.scoring.effective.AttackComplexity.TheVariants as attack_complexity
use Rattle.cvss_score.specs.declared.v4.scoring.effective.AttackRequirements.{AttackRequirements}
use Rattle.cvss_score.specs.declared.v4.scoring.effective.AttackRequirements.TheVariants as attack_requirements
use Rattle.cvss_score.specs.declared.v4.scoring.effective.VulnerableImpact.{VulnerableImpact}
use Rattle.cvss_score.specs.declared.v4.scoring.effective.VulnerableImpact.TheVariants as vulnerable_impact
use Rattle.cvss_score.specs.declared.v4.scoring.effective.SubsequentImpact.{SubsequentImpact}
use Rattle.cvss_score.specs.declared.v4.scoring.effective.SubsequentImpact.TheVariants as subsequent_impact
use Rattle.cvss_score.specs.declared.v4.scoring.effective.SafetyImpact.{SafetyImpact}
use Rattle.cvss_score.specs.declared.v4.scoring.effective.SafetyImpact.TheVariants as safety_impact
use Rattle.cvss_score.specs.declared.v4.scoring.effective.Requirement.{Requirement}
use Rattle.cvss_score.specs.declared.v4.scoring.effective.Requirement.TheVariants as requirement

-- AV, PR and UI
abbrev pub attack_vector_level : AttackVector → ℕ
attack_vector_level = elim [ attack_vector.Network ↦ 0 | attack_vector.Adjacent ↦ 1 | attack_vector.Local ↦ 2 | attack_vector.Physical ↦ 3 ]

abbrev pub privileges_level : PrivilegesRequired → ℕ
privileges_level = elim [ privileges_required.None ↦ 0 | privileges_required.Low ↦ 1 | privileges_required.High ↦ 2 ]

abbrev pub interaction_level : UserInteraction → ℕ
interaction_level = elim [ user_interaction.None ↦ 0 | user_interaction.Passive ↦ 1 | user_interaction.Active ↦ 2 ]

-- AC and AT
abbrev pub complexity_level : AttackComplexity → ℕ
complexity_level = elim [ attack_complexity.Low ↦ 0 | attack_complexity.High ↦ 1 ]

abbrev pub requirements_level : AttackRequirements → ℕ
requirements_level = elim [ attack_requirements.None ↦ 0 | attack_requirements.Present ↦ 1 ]

-- VC, VI and VA; CR, IR and AR
abbrev pub vulnerable_level : VulnerableImpact → ℕ
vulnerable_level = elim [ vulnerable_impact.High ↦ 0 | vulnerable_impact.Low ↦ 1 | vulnerable_impact.None ↦ 2 ]

abbrev pub requirement_level : Requirement → ℕ
requirement_level = elim [ requirement.High ↦ 0 | requirement.Medium ↦ 1 | requirement.Low ↦ 2 ]

-- SC, and on the same scale SI and SA
abbrev pub subsequent_level : SubsequentImpact → ℕ
subsequent_level = elim [ subsequent_impact.High ↦ 1 | subsequent_impact.Low ↦ 2 | subsequent_impact.None ↦ 3 ]

abbrev pub safety_level : SafetyImpact → ℕ
safety_level = elim [ safety_impact.Safety ↦ 0 | safety_impact.High ↦ 1 | safety_impact.Low ↦ 2 | safety_impact.None ↦ 3 ]
