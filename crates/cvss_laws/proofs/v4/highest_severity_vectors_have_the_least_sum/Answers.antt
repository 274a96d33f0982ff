use Rattle.std.proofs.Common.{refl}
use Rattle.cvss_score.specs.v4.Distance.{eq1_least, eq2_least, eq3_eq6_least, eq4_least}
use Rattle.cvss_laws.specs.v4.Maximal.{eq1_maximal, eq2_maximal, eq3_eq6_maximal, eq4_maximal}
use Rattle.cvss_laws.proofs.v4.ClassLawLemmas.{one_number, one_pair, have_least}
use Rattle.cvss_score.proofs.v4_lemmas.TestLemmas.{numbers, pairs}
use Rattle.cvss_score.proofs.v4_lemmas.LeastLemmas.{eq1_scale, eq2_scale, eq3_eq6_scale, eq4_scale}
use Rattle.cvss_laws.proofs.v4.highest_severity_vectors_have_the_least_sum.Goals as goal

pub returns : goal.returns
unfolding eq1_least eq2_least eq3_eq6_least eq4_least
returns c = record {
  eq1 = have_least eq1_scale (numbers 2) one_number eq1_maximal refl;
  eq2 = have_least eq2_scale (numbers 1) one_number eq2_maximal refl;
  eq3_eq6 = λ class3 class6. have_least eq3_eq6_scale pairs one_pair (λ class. eq3_eq6_maximal class.0 class.1) refl (class3, class6);
  eq4 = have_least eq4_scale (numbers 2) one_number eq4_maximal refl;
}
