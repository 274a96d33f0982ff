-- The letters of effective values: CVSS v4.0 specification, sections 2 to 4.
use Rattle.std.specs.Prelude.{ℕ, List, [], ◌∷◌, codes, map}
use Rattle.cvss_json.specs.Json.{Member, string_text}
use Rattle.cvss_base.specs.declared.v4.MetricType.{MetricType}
use Rattle.cvss_base.specs.declared.v4.MetricType.TheVariants.{AC, AR, AT, AV, CR, E, IR, PR, SA, SC, SI, UI, VA, VC, VI}
use Rattle.cvss_base.specs.V4Types.{name_of}
use Rattle.cvss_score.specs.declared.v4.scoring.effective.Effective.{Effective}
use Rattle.cvss_score.specs.declared.v4.scoring.effective.AttackVector.{AttackVector}
use Rattle.cvss_score.specs.declared.v4.scoring.effective.AttackVector.TheVariants as attack_vector
use Rattle.cvss_score.specs.declared.v4.scoring.effective.AttackComplexity.{AttackComplexity}
use Rattle.cvss_score.specs.declared.v4.scoring.effective.AttackComplexity.TheVariants as attack_complexity
use Rattle.cvss_score.specs.declared.v4.scoring.effective.AttackRequirements.{AttackRequirements}
use Rattle.cvss_score.specs.declared.v4.scoring.effective.AttackRequirements.TheVariants as attack_requirements
use Rattle.cvss_score.specs.declared.v4.scoring.effective.PrivilegesRequired.{PrivilegesRequired}
use Rattle.cvss_score.specs.declared.v4.scoring.effective.PrivilegesRequired.TheVariants as privileges_required
use Rattle.cvss_score.specs.declared.v4.scoring.effective.UserInteraction.{UserInteraction}
use Rattle.cvss_score.specs.declared.v4.scoring.effective.UserInteraction.TheVariants as user_interaction
use Rattle.cvss_score.specs.declared.v4.scoring.effective.VulnerableImpact.{VulnerableImpact}
use Rattle.cvss_score.specs.declared.v4.scoring.effective.VulnerableImpact.TheVariants as vulnerable_impact
use Rattle.cvss_score.specs.declared.v4.scoring.effective.SubsequentImpact.{SubsequentImpact}
use Rattle.cvss_score.specs.declared.v4.scoring.effective.SubsequentImpact.TheVariants as subsequent_impact
use Rattle.cvss_score.specs.declared.v4.scoring.effective.SafetyImpact.{SafetyImpact}
use Rattle.cvss_score.specs.declared.v4.scoring.effective.SafetyImpact.TheVariants as safety_impact
use Rattle.cvss_score.specs.declared.v4.scoring.effective.Requirement.{Requirement}
use Rattle.cvss_score.specs.declared.v4.scoring.effective.Requirement.TheVariants as requirement
use Rattle.cvss_score.specs.declared.v4.scoring.effective.ExploitMaturity.{ExploitMaturity}
use Rattle.cvss_score.specs.declared.v4.scoring.effective.ExploitMaturity.TheVariants as exploit_maturity

-- AV
abbrev pub attack_vector_letter : AttackVector → List ℕ
attack_vector_letter = elim [ attack_vector.Network ↦ codes "N" | attack_vector.Adjacent ↦ codes "A" | attack_vector.Local ↦ codes "L" | attack_vector.Physical ↦ codes "P" ]

-- AC
abbrev pub attack_complexity_letter : AttackComplexity → List ℕ
attack_complexity_letter = elim [ attack_complexity.Low ↦ codes "L" | attack_complexity.High ↦ codes "H" ]

-- AT
abbrev pub attack_requirements_letter : AttackRequirements → List ℕ
attack_requirements_letter = elim [ attack_requirements.None ↦ codes "N" | attack_requirements.Present ↦ codes "P" ]

-- PR
abbrev pub privileges_required_letter : PrivilegesRequired → List ℕ
privileges_required_letter = elim [ privileges_required.None ↦ codes "N" | privileges_required.Low ↦ codes "L" | privileges_required.High ↦ codes "H" ]

-- UI
abbrev pub user_interaction_letter : UserInteraction → List ℕ
user_interaction_letter = elim [ user_interaction.None ↦ codes "N" | user_interaction.Passive ↦ codes "P" | user_interaction.Active ↦ codes "A" ]

-- VC, VI and VA
abbrev pub vulnerable_impact_letter : VulnerableImpact → List ℕ
vulnerable_impact_letter = elim [ vulnerable_impact.High ↦ codes "H" | vulnerable_impact.Low ↦ codes "L" | vulnerable_impact.None ↦ codes "N" ]

-- SC
abbrev pub subsequent_impact_letter : SubsequentImpact → List ℕ
subsequent_impact_letter = elim [ subsequent_impact.High ↦ codes "H" | subsequent_impact.Low ↦ codes "L" | subsequent_impact.None ↦ codes "N" ]

-- SI and SA
abbrev pub safety_impact_letter : SafetyImpact → List ℕ
safety_impact_letter = elim [ safety_impact.Safety ↦ codes "S" | safety_impact.High ↦ codes "H" | safety_impact.Low ↦ codes "L" | safety_impact.None ↦ codes "N" ]

-- CR, IR and AR
abbrev pub requirement_letter : Requirement → List ℕ
requirement_letter = elim [ requirement.High ↦ codes "H" | requirement.Medium ↦ codes "M" | requirement.Low ↦ codes "L" ]

-- E
abbrev pub exploit_maturity_letter : ExploitMaturity → List ℕ
exploit_maturity_letter = elim [ exploit_maturity.Attacked ↦ codes "A" | exploit_maturity.ProofOfConcept ↦ codes "P" | exploit_maturity.Unreported ↦ codes "U" ]

-- the letter of a metric's effective value
abbrev pub letter_at : Effective → MetricType → List ℕ
letter_at v AV = attack_vector_letter v.av
letter_at v AC = attack_complexity_letter v.ac
letter_at v AT = attack_requirements_letter v.at
letter_at v PR = privileges_required_letter v.pr
letter_at v UI = user_interaction_letter v.ui
letter_at v VC = vulnerable_impact_letter v.vc
letter_at v VI = vulnerable_impact_letter v.vi
letter_at v VA = vulnerable_impact_letter v.va
letter_at v SC = subsequent_impact_letter v.sc
letter_at v SI = safety_impact_letter v.si
letter_at v SA = safety_impact_letter v.sa
letter_at v E = exploit_maturity_letter v.e
letter_at v CR = requirement_letter v.cr
letter_at v IR = requirement_letter v.ir
letter_at v AR = requirement_letter v.ar
letter_at v _ = []

abbrev pub letter_member : Effective → MetricType → Member
letter_member v kind = (name_of kind, string_text (letter_at v kind))

-- the metrics that have an effective value, in the order of their names
abbrev pub by_name : List MetricType
by_name = AC ∷ AR ∷ AT ∷ AV ∷ CR ∷ E ∷ IR ∷ PR ∷ SA ∷ SC ∷ SI ∷ UI ∷ VA ∷ VC ∷ VI ∷ []

abbrev pub effective_members : Effective → List Member
effective_members v = map (letter_member v) by_name
