-- The severity distance of effective values within their class, in tenths: CVSS v4.0 specification, section 8.2.
-- It is the sum of their levels, less the least such sum over all assignments of values with the same class.
use Rattle.std.specs.Prelude.{ℕ, ◌+◌, ◌==◌, ◌&&◌, min, Bool, if◌then◌else◌, List, [], ◌∷◌, ℤ, pos, ◌-ℤ◌}
use Rattle.std.specs.List.{flat_map}
use Rattle.cvss_score.specs.v4.Effective.{attack_vectors, privileges, user_interactions, attack_complexities, all_attack_requirements, vulnerable_impacts, subsequent_impacts, safety_impacts, requirements, values}
use Rattle.cvss_score.specs.v4.Levels.{attack_vector_level, privileges_level, interaction_level, complexity_level, requirements_level, vulnerable_level, subsequent_level, safety_level, requirement_level}
use Rattle.cvss_score.specs.v4.Classes.{eq1, eq2, eq3, eq4, eq6}
use Rattle.cvss_score.specs.declared.v4.scoring.effective.Effective.{Effective}
use Rattle.cvss_score.specs.declared.v4.scoring.effective.AttackVector.{AttackVector}
use Rattle.cvss_score.specs.declared.v4.scoring.effective.PrivilegesRequired.{PrivilegesRequired}
use Rattle.cvss_score.specs.declared.v4.scoring.effective.UserInteraction.{UserInteraction}
use Rattle.cvss_score.specs.declared.v4.scoring.effective.AttackComplexity.{AttackComplexity}
use Rattle.cvss_score.specs.declared.v4.scoring.effective.AttackRequirements.{AttackRequirements}
use Rattle.cvss_score.specs.declared.v4.scoring.effective.VulnerableImpact.{VulnerableImpact}
use Rattle.cvss_score.specs.declared.v4.scoring.effective.SubsequentImpact.{SubsequentImpact}
use Rattle.cvss_score.specs.declared.v4.scoring.effective.SafetyImpact.{SafetyImpact}
use Rattle.cvss_score.specs.declared.v4.scoring.effective.Requirement.{Requirement}

-- the least of a list of sums, which is not empty
abbrev pub least : List ℕ → ℕ
least [] = 0
least (n ∷ []) = n
least (n ∷ m ∷ rest) = min n (least (m ∷ rest))

-- a sum, where its assignment has the class
abbrev pub sum_if : Bool → ℕ → List ℕ
sum_if has_class sum = if has_class then sum ∷ [] else []

-- EQ1: the levels of AV, PR and UI
abbrev pub eq1_sum : AttackVector → PrivilegesRequired → UserInteraction → ℕ
eq1_sum av pr ui = attack_vector_level av + privileges_level pr + interaction_level ui

-- the least sum of a class of EQ1
unfoldable pub eq1_least : ℕ → ℕ
eq1_least class =
    least (flat_map (λ av. flat_map (λ pr. flat_map (λ ui.
    sum_if (eq1 av pr ui == class) (eq1_sum av pr ui)) (values user_interactions)) (values privileges)) (values attack_vectors))

-- EQ2: the levels of AC and AT
abbrev pub eq2_sum : AttackComplexity → AttackRequirements → ℕ
eq2_sum ac at = complexity_level ac + requirements_level at

-- the least sum of a class of EQ2
unfoldable pub eq2_least : ℕ → ℕ
eq2_least class =
    least (flat_map (λ ac. flat_map (λ at.
    sum_if (eq2 ac at == class) (eq2_sum ac at)) (values all_attack_requirements)) (values attack_complexities))

-- EQ3 with EQ6: the levels of VC, VI, VA, CR, IR and AR
abbrev pub eq3_eq6_sum : VulnerableImpact → VulnerableImpact → VulnerableImpact → Requirement → Requirement → Requirement
    → ℕ
eq3_eq6_sum vc vi va cr ir ar =
    vulnerable_level vc + vulnerable_level vi + vulnerable_level va
    + requirement_level cr + requirement_level ir + requirement_level ar

-- the least sum of a class of EQ3 with a class of EQ6: of all values of the six metrics, those in both classes count
unfoldable pub eq3_eq6_least : ℕ → ℕ → ℕ
eq3_eq6_least class3 class6 =
    least (flat_map (λ vc. flat_map (λ vi. flat_map (λ va. flat_map (λ cr. flat_map (λ ir. flat_map (λ ar.
    sum_if ((eq3 vc vi va == class3) && (eq6 vc vi va cr ir ar == class6)) (eq3_eq6_sum vc vi va cr ir ar))
    (values requirements)) (values requirements)) (values requirements)) (values vulnerable_impacts)) (values vulnerable_impacts)) (values vulnerable_impacts))

-- EQ4: the levels of SC, SI and SA
abbrev pub eq4_sum : SubsequentImpact → SafetyImpact → SafetyImpact → ℕ
eq4_sum sc si sa = subsequent_level sc + safety_level si + safety_level sa

-- the least sum of a class of EQ4
unfoldable pub eq4_least : ℕ → ℕ
eq4_least class =
    least (flat_map (λ sc. flat_map (λ si. flat_map (λ sa.
    sum_if (eq4 sc si sa == class) (eq4_sum sc si sa)) (values safety_impacts)) (values safety_impacts)) (values subsequent_impacts))

-- the distance in EQ1
abbrev pub eq1_distance : Effective → ℤ
eq1_distance v = pos (eq1_sum v.av v.pr v.ui) -ℤ pos (eq1_least (eq1 v.av v.pr v.ui))

-- the distance in EQ2
abbrev pub eq2_distance : Effective → ℤ
eq2_distance v = pos (eq2_sum v.ac v.at) -ℤ pos (eq2_least (eq2 v.ac v.at))

-- the distance in EQ3 with EQ6
abbrev pub eq3_eq6_distance : Effective → ℤ
eq3_eq6_distance v =
    pos (eq3_eq6_sum v.vc v.vi v.va v.cr v.ir v.ar)
    -ℤ pos (eq3_eq6_least (eq3 v.vc v.vi v.va) (eq6 v.vc v.vi v.va v.cr v.ir v.ar))

-- the distance in EQ4
abbrev pub eq4_distance : Effective → ℤ
eq4_distance v = pos (eq4_sum v.sc v.si v.sa) -ℤ pos (eq4_least (eq4 v.sc v.si v.sa))
