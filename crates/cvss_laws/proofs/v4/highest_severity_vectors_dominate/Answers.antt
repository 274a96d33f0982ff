use Rattle.std.proofs.Common.{refl}
use Rattle.cvss_score.specs.v4.Classes.{eq1, eq2, eq3, eq4, eq6}
use Rattle.cvss_laws.specs.v4.Maximal.{eq1_levels, eq1_maximal, eq2_levels, eq2_maximal, eq3_eq6_levels, eq3_eq6_maximal, eq4_levels, eq4_maximal}
use Rattle.cvss_laws.proofs.v4.ClassLawLemmas.{dominated}
use Rattle.cvss_score.proofs.v4_lemmas.TestLemmas.{each_eq1, each_eq2, each_eq3_eq6, each_eq4}
use Rattle.cvss_laws.proofs.v4.highest_severity_vectors_dominate.Goals as goal

pub returns : goal.returns
returns c = record {
  eq1 = dominated each_eq1 eq1_levels (λ v. eq1_maximal (eq1 v.0 v.1 v.2)) refl;
  eq2 = dominated each_eq2 eq2_levels (λ v. eq2_maximal (eq2 v.0 v.1)) refl;
  eq3_eq6 = dominated each_eq3_eq6 eq3_eq6_levels (λ v. eq3_eq6_maximal (eq3 v.0 v.1 v.2) (eq6 v.0 v.1 v.2 v.3 v.4 v.5)) refl;
  eq4 = dominated each_eq4 eq4_levels (λ v. eq4_maximal (eq4 v.0 v.1 v.2)) refl;
}
