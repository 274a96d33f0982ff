-- The six numbers of effective values are those of a class.
use Rattle.cvss_score.specs.v4.Classes.{macro_vector, IsMacroVector}
use Rattle.cvss_score.specs.declared.v4.scoring.effective.Effective.{Effective}
use Rattle.cvss_score.proofs.v4_lemmas.LeastLemmas.{eq1_is_scale, eq2_is_scale, eq3_eq6_is_scale, eq4_is_scale, eq5_is_scale}

pub macro_vector_is : (v : Effective) → IsMacroVector (macro_vector v)
macro_vector_is v =
    let impact = eq3_eq6_is_scale.is_class (v.vc, v.vi, v.va, v.cr, v.ir, v.ar) in
    record {
      eq1 = eq1_is_scale.is_class (v.av, v.pr, v.ui);
      eq2 = eq2_is_scale.is_class (v.ac, v.at);
      eq3 = impact.eq3;
      eq4 = eq4_is_scale.is_class (v.sc, v.si, v.sa);
      eq5 = eq5_is_scale.is_class v.e;
      eq6 = impact.eq6;
      eq3_eq6 = impact.both;
    }
