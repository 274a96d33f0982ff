-- Classes and scores that the public calculators of CVSS v4.0 give, so that a wrong rule does not check.
use Rattle.std.proofs.Common.{◌≡◌, Some, None, pos, refl, rules}
use Rattle.cvss_score.specs.v4.Classes.{macro_vector}
use Rattle.cvss_score.specs.v4.Distance.{eq1_least, eq2_least, eq3_eq6_least, eq4_least}
use Rattle.cvss_score.specs.v4.Gap.{eq3_eq6_group, eq3_eq6_next, next_lower}
use Rattle.cvss_score.specs.v4.Scores.{number, IsScore}
use Rattle.cvss_score.specs.v4.Values.{rows, listed_value}
use Rattle.cvss_score.specs.declared.v4.scoring.effective.Effective.{Effective}
use Rattle.cvss_score.specs.declared.v4.scoring.effective.AttackVector.TheVariants as attack_vector
use Rattle.cvss_score.specs.declared.v4.scoring.effective.PrivilegesRequired.TheVariants as privileges
use Rattle.cvss_score.specs.declared.v4.scoring.effective.UserInteraction.TheVariants as interaction
use Rattle.cvss_score.specs.declared.v4.scoring.effective.AttackComplexity.TheVariants as complexity
use Rattle.cvss_score.specs.declared.v4.scoring.effective.AttackRequirements.TheVariants as conditions
use Rattle.cvss_score.specs.declared.v4.scoring.effective.VulnerableImpact.TheVariants as impact
use Rattle.cvss_score.specs.declared.v4.scoring.effective.SubsequentImpact.TheVariants as subsequent
use Rattle.cvss_score.specs.declared.v4.scoring.effective.SafetyImpact.TheVariants as safety
use Rattle.cvss_score.specs.declared.v4.scoring.effective.Requirement.TheVariants as requirement
use Rattle.cvss_score.specs.declared.v4.scoring.effective.ExploitMaturity.TheVariants as exploit

-- AV:N/AC:L/AT:N/PR:N/UI:N with no impact
abbrev harmless : Effective
harmless = record {
  av = attack_vector.Network;
  pr = privileges.None;
  ui = interaction.None;
  ac = complexity.Low;
  at = conditions.None;
  vc = impact.None;
  vi = impact.None;
  va = impact.None;
  sc = subsequent.None;
  si = safety.None;
  sa = safety.None;
  cr = requirement.High;
  ir = requirement.High;
  ar = requirement.High;
  e = exploit.Attacked;
}

-- AV:N/AC:L/AT:N/PR:N/UI:N/VC:N/VI:H/VA:N/SC:N/SI:N/SA:N/E:P
abbrev integrity : Effective
integrity = record harmless { vi = impact.High; e = exploit.ProofOfConcept }

-- AV:A/AC:H/AT:N/PR:N/UI:N/VC:H/VI:H/VA:N/E:U/CR:H/IR:L/AR:L
abbrev adjacent : Effective
adjacent =
    let attack = record harmless { av = attack_vector.Adjacent; ac = complexity.High; e = exploit.Unreported } in
    record attack { vc = impact.High; vi = impact.High; ir = requirement.Low; ar = requirement.Low }

-- all six impacts H
abbrev most_severe : Effective
most_severe =
    let vulnerable = record harmless { vc = impact.High; vi = impact.High; va = impact.High } in
    record vulnerable { sc = subsequent.High; si = safety.High; sa = safety.High }

pub integrity_class : macro_vector integrity ≡ record { eq1 = 0; eq2 = 0; eq3 = 1; eq4 = 2; eq5 = 1; eq6 = 0 }
integrity_class = refl

-- the first and the last value of the table, one between them, and none for EQ3 = 2 with EQ6 = 0
pub table_values : (listed_value (record { eq1 = 0; eq2 = 0; eq3 = 0; eq4 = 0; eq5 = 0; eq6 = 0 }) ≡ Some 100)
    × (listed_value (record { eq1 = 1; eq2 = 0; eq3 = 1; eq4 = 2; eq5 = 1; eq6 = 1 }) ≡ Some 52)
    × (listed_value (record { eq1 = 2; eq2 = 1; eq3 = 2; eq4 = 2; eq5 = 2; eq6 = 1 }) ≡ Some 1)
    × (listed_value (record { eq1 = 0; eq2 = 0; eq3 = 2; eq4 = 0; eq5 = 0; eq6 = 0 }) ≡ None)
unfolding rows listed_value
table_values = (refl, refl, refl, refl)

-- of the classes with the values 3.0 and 2.4 that with the larger is the next lower one
pub next_lower_classes : (eq3_eq6_next (macro_vector adjacent) ≡ Some (record { eq1 = 1; eq2 = 1; eq3 = 0; eq4 = 2; eq5 = 2; eq6 = 1 }))
    × (next_lower (eq3_eq6_group adjacent) ≡ Some 30)
unfolding rows listed_value
next_lower_classes = (refl, refl)

-- the scores of these
pub scores : IsScore integrity (pos 77) × IsScore harmless (pos 0) × IsScore most_severe (pos 100) × IsScore adjacent (pos 43)
unfolding number rows listed_value eq1_least eq2_least eq3_eq6_least eq4_least
scores = (search rules, search rules, search rules, search rules)
