use Rattle.std.proofs.Common.{refl}
use Rattle.cvss_score.specs.v4.Distance.{eq1_least, eq2_least, eq3_eq6_least, eq4_least}
use Rattle.cvss_laws.proofs.v4.ClassLawLemmas.{one_number, one_pair}
use Rattle.cvss_laws.proofs.v4.DepthLemmas.{eq1_farthest, eq2_farthest, eq3_eq6_farthest, eq4_farthest, depth}
use Rattle.cvss_score.proofs.v4_lemmas.TestLemmas.{numbers, pairs}
use Rattle.cvss_score.proofs.v4_lemmas.LeastLemmas.{eq1_scale, eq1_is_scale, eq2_scale, eq2_is_scale, eq3_eq6_scale, eq3_eq6_is_scale, eq4_scale, eq4_is_scale}
use Rattle.cvss_laws.proofs.v4.depths_are_greatest_distances_and_one.Goals as goal

pub returns : goal.returns
unfolding eq1_least eq2_least eq3_eq6_least eq4_least
returns c = record {
  eq1 = depth eq1_scale (numbers 2) one_number eq1_is_scale (λ v. (v.av, v.pr, v.ui)) eq1_farthest refl;
  eq2 = depth eq2_scale (numbers 1) one_number eq2_is_scale (λ v. (v.ac, v.at)) eq2_farthest refl;
  eq3_eq6 = λ class3 class6. depth eq3_eq6_scale pairs one_pair eq3_eq6_is_scale (λ v. (v.vc, v.vi, v.va, v.cr, v.ir, v.ar)) eq3_eq6_farthest refl (class3, class6);
  eq4 = depth eq4_scale (numbers 2) one_number eq4_is_scale (λ v. (v.sc, v.si, v.sa)) eq4_farthest refl;
}
