-- The equivalence classes EQ1 to EQ6 of effective values: CVSS v4.0 specification, section 8.2 (MacroVectors).
use Rattle.std.specs.Prelude.{◌≡◌, ◌≤◌, ℕ, Bool, true, false, ◌&&◌, ◌||◌, not, if◌then◌else◌}
use Rattle.cvss_score.specs.declared.v4.scoring.classes.MacroVector.{MacroVector}
use Rattle.cvss_score.specs.declared.v4.scoring.effective.Effective.{Effective}
use Rattle.cvss_score.specs.declared.v4.scoring.effective.AttackVector.{AttackVector}
use Rattle.cvss_score.specs.declared.v4.scoring.effective.AttackVector.TheVariants.{Network, Physical}
use Rattle.cvss_score.specs.declared.v4.scoring.effective.PrivilegesRequired.{PrivilegesRequired}
use Rattle.cvss_score.specs.declared.v4.scoring.effective.PrivilegesRequired.TheVariants as privileges_required
use Rattle.cvss_score.specs.declared.v4.scoring.effective.UserInteraction.{UserInteraction}
use Rattle.cvss_score.specs.declared.v4.scoring.effective.UserInteraction.TheVariants as user_interaction
use Rattle.cvss_score.specs.declared.v4.scoring.effective.AttackComplexity.{AttackComplexity}
use Rattle.cvss_score.specs.declared.v4.scoring.effective.AttackComplexity.TheVariants as attack_complexity
use Rattle.cvss_score.specs.declared.v4.scoring.effective.AttackRequirements.{AttackRequirements}
use Rattle.cvss_score.specs.declared.v4.scoring.effective.AttackRequirements.TheVariants as attack_requirements
use Rattle.cvss_score.specs.declared.v4.scoring.effective.VulnerableImpact.{VulnerableImpact}
use Rattle.cvss_score.specs.declared.v4.scoring.effective.VulnerableImpact.TheVariants as vulnerable_impact
use Rattle.cvss_score.specs.declared.v4.scoring.effective.SubsequentImpact.{SubsequentImpact}
use Rattle.cvss_score.specs.declared.v4.scoring.effective.SubsequentImpact.TheVariants as subsequent_impact
use Rattle.cvss_score.specs.declared.v4.scoring.effective.SafetyImpact.{SafetyImpact}
use Rattle.cvss_score.specs.declared.v4.scoring.effective.SafetyImpact.TheVariants as safety_impact
use Rattle.cvss_score.specs.declared.v4.scoring.effective.Requirement.{Requirement}
use Rattle.cvss_score.specs.declared.v4.scoring.effective.Requirement.TheVariants as requirement
use Rattle.cvss_score.specs.declared.v4.scoring.effective.ExploitMaturity.{ExploitMaturity}
use Rattle.cvss_score.specs.declared.v4.scoring.effective.ExploitMaturity.TheVariants.{Attacked, ProofOfConcept, Unreported}

-- values of AV, PR and UI
abbrev pub Eq1Values : Type 0
Eq1Values = AttackVector × PrivilegesRequired × UserInteraction

-- AV:N, AV:P, PR:N and UI:N
abbrev pub is_network : AttackVector → Bool
is_network = elim [ Network ↦ true | _ ↦ false ]

abbrev pub is_physical : AttackVector → Bool
is_physical = elim [ Physical ↦ true | _ ↦ false ]

abbrev pub is_unprivileged : PrivilegesRequired → Bool
is_unprivileged = elim [ privileges_required.None ↦ true | _ ↦ false ]

abbrev pub is_alone : UserInteraction → Bool
is_alone = elim [ user_interaction.None ↦ true | _ ↦ false ]

-- 0: AV:N and PR:N and UI:N; 1: not 0, AV:N or PR:N or UI:N, and not AV:P; 2: AV:P, or none of AV:N, PR:N, UI:N
abbrev pub eq1 : AttackVector → PrivilegesRequired → UserInteraction → ℕ
eq1 av pr ui =
    if is_network av && is_unprivileged pr && is_alone ui then 0
    else (if (is_network av || (is_unprivileged pr || is_alone ui)) && not (is_physical av) then 1 else 2)

-- values of AC and AT
abbrev pub Eq2Values : Type 0
Eq2Values = AttackComplexity × AttackRequirements

-- AC:L and AT:N
abbrev pub is_simple : AttackComplexity → Bool
is_simple = elim [ attack_complexity.Low ↦ true | _ ↦ false ]

abbrev pub is_unconditional : AttackRequirements → Bool
is_unconditional = elim [ attack_requirements.None ↦ true | _ ↦ false ]

-- 0: AC:L and AT:N; 1: not AC:L, or not AT:N
abbrev pub eq2 : AttackComplexity → AttackRequirements → ℕ
eq2 ac at = if is_simple ac && is_unconditional at then 0 else 1

-- values of VC, VI, VA, CR, IR and AR
abbrev pub Eq3Eq6Values : Type 0
Eq3Eq6Values = VulnerableImpact × VulnerableImpact × VulnerableImpact × Requirement × Requirement × Requirement

-- VC:H, VI:H or VA:H; CR:H, IR:H or AR:H
abbrev pub is_vulnerable_high : VulnerableImpact → Bool
is_vulnerable_high = elim [ vulnerable_impact.High ↦ true | _ ↦ false ]

abbrev pub is_requirement_high : Requirement → Bool
is_requirement_high = elim [ requirement.High ↦ true | _ ↦ false ]

-- 0: VC:H and VI:H; 1: not 0, and VC:H or VI:H or VA:H; 2: none of VC:H, VI:H, VA:H
abbrev pub eq3 : VulnerableImpact → VulnerableImpact → VulnerableImpact → ℕ
eq3 vc vi va =
    if is_vulnerable_high vc && is_vulnerable_high vi then 0
    else (if is_vulnerable_high vc || (is_vulnerable_high vi || is_vulnerable_high va) then 1 else 2)

-- 0: CR:H and VC:H, or IR:H and VI:H, or AR:H and VA:H; 1: none of the three
abbrev pub eq6 : VulnerableImpact → VulnerableImpact → VulnerableImpact → Requirement → Requirement → Requirement → ℕ
eq6 vc vi va cr ir ar =
    if is_requirement_high cr && is_vulnerable_high vc
    || (is_requirement_high ir && is_vulnerable_high vi || is_requirement_high ar && is_vulnerable_high va)
    then 0
    else 1

-- values of SC, SI and SA
abbrev pub Eq4Values : Type 0
Eq4Values = SubsequentImpact × SafetyImpact × SafetyImpact

-- SC:H; SI:H or SA:H; SI:S or SA:S
abbrev pub is_subsequent_high : SubsequentImpact → Bool
is_subsequent_high = elim [ subsequent_impact.High ↦ true | _ ↦ false ]

abbrev pub is_safety_high : SafetyImpact → Bool
is_safety_high = elim [ safety_impact.High ↦ true | _ ↦ false ]

abbrev pub is_unsafe : SafetyImpact → Bool
is_unsafe = elim [ safety_impact.Safety ↦ true | _ ↦ false ]

-- 0: SI:S or SA:S; 1: not 0, and SC:H or SI:H or SA:H; 2: none of SI:S, SA:S, SC:H, SI:H, SA:H
abbrev pub eq4 : SubsequentImpact → SafetyImpact → SafetyImpact → ℕ
eq4 sc si sa =
    if is_unsafe si || is_unsafe sa then 0
    else (if is_subsequent_high sc || (is_safety_high si || is_safety_high sa) then 1 else 2)

-- 0: E:A; 1: E:P; 2: E:U
abbrev pub eq5 : ExploitMaturity → ℕ
eq5 = elim [ Attacked ↦ 0 | ProofOfConcept ↦ 1 | Unreported ↦ 2 ]

-- the six numbers of effective values
abbrev pub macro_vector : Effective → MacroVector
macro_vector v = record {
  eq1 = eq1 v.av v.pr v.ui;
  eq2 = eq2 v.ac v.at;
  eq3 = eq3 v.vc v.vi v.va;
  eq4 = eq4 v.sc v.si v.sa;
  eq5 = eq5 v.e;
  eq6 = eq6 v.vc v.vi v.va v.cr v.ir v.ar;
}

-- there is a class with these six numbers; EQ3 = 2 with EQ6 = 0 can't arise
pub record IsMacroVector (m : MacroVector) : Type 0 where
  pub eq1 : m.eq1 ≤ 2
  pub eq2 : m.eq2 ≤ 1
  pub eq3 : m.eq3 ≤ 2
  pub eq4 : m.eq4 ≤ 2
  pub eq5 : m.eq5 ≤ 2
  pub eq6 : m.eq6 ≤ 1
  pub eq3_eq6 : m.eq3 ≡ 2 → m.eq6 ≡ 1

-- there is a class of EQ3 with EQ6 with these two numbers
pub record IsPair (class3 class6 : ℕ) : Type 0 where
  pub eq3 : class3 ≤ 2
  pub eq6 : class6 ≤ 1
  pub both : class3 ≡ 2 → class6 ≡ 1
