-- The weights of vectors are bounded.
use Rattle.std.proofs.Common.{refl}
use Rattle.cvss_base.specs.declared.v2.MetricType.TheVariants.{A, AC, AV, Au, C, I, E, RL, RC, CDP, TD, CR, IR, AR}
use Rattle.cvss_score.proofs.v3_lemmas.SubScoreLemmas.{weight_bound}
use Rattle.cvss_score.specs.v2.Bounds.{AreBounded}
use Rattle.cvss_vector.specs.declared.v2.vector.Vector.{Vector}
use Rattle.cvss_vector.specs.v2.Weights.{weights_of}
use Rattle.cvss_laws.proofs.v2.TableLemmas.{weights, weight_listed}

pub bounded : (v : Vector) → AreBounded (weights_of v)
bounded v = record {
  av = weight_bound (weights AV) _ 1000 refl (weight_listed v AV);
  ac = weight_bound (weights AC) _ 710 refl (weight_listed v AC);
  au = weight_bound (weights Au) _ 704 refl (weight_listed v Au);
  c = weight_bound (weights C) _ 660 refl (weight_listed v C);
  i = weight_bound (weights I) _ 660 refl (weight_listed v I);
  a = weight_bound (weights A) _ 660 refl (weight_listed v A);
  e = weight_bound (weights E) _ 1000 refl (weight_listed v E);
  rl = weight_bound (weights RL) _ 1000 refl (weight_listed v RL);
  rc = weight_bound (weights RC) _ 1000 refl (weight_listed v RC);
  cdp = weight_bound (weights CDP) _ 500 refl (weight_listed v CDP);
  td = weight_bound (weights TD) _ 1000 refl (weight_listed v TD);
  cr = weight_bound (weights CR) _ 1510 refl (weight_listed v CR);
  ir = weight_bound (weights IR) _ 1510 refl (weight_listed v IR);
  ar = weight_bound (weights AR) _ 1510 refl (weight_listed v AR);
}
