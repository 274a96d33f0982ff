use Rattle.std.proofs.Common.{◌≤◌, arith}
use Rattle.cvss_score.proofs.v4_lemmas.LeastLemmas.{Scale, IsScale, eq1_scale, eq1_is_scale, eq2_scale, eq2_is_scale, eq3_eq6_scale, eq3_eq6_is_scale, eq4_scale, eq4_is_scale}
use Rattle.cvss_laws.proofs.v4.least_sums_are_least.Goals as goal

from_least : {V C : Type 0} (scale : Scale V C) {IsClass : C → Type 0} → IsScale scale IsClass → (v : V) → scale.least (scale.class v) ≤ scale.sum v
from_least scale is v = let within = is.within v in omega (arith, within.is_sum, within.from_least)

pub returns : goal.returns
returns c = record {
  eq1 = from_least eq1_scale eq1_is_scale;
  eq2 = from_least eq2_scale eq2_is_scale;
  eq3_eq6 = from_least eq3_eq6_scale eq3_eq6_is_scale;
  eq4 = from_least eq4_scale eq4_is_scale;
}
