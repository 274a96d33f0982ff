-- The weights that the tables give are bounded.
use Rattle.std.proofs.Common.{ℕ, ◌≤◌, Bool, true, false, refl}
use Rattle.std.specs.List.{Contains}
use Rattle.cvss_score.proofs.v3_lemmas.SubScoreLemmas.{weight_bound}
use Rattle.cvss_score.specs.v3.Bounds.{attack_complexities, attack_vectors, exploit_code_maturities, impacts, privileges_required, remediation_levels, report_confidences, requirements, user_interactions, AreBounded, AreOfTables}
use Rattle.cvss_score.specs.declared.v3.weights.Weights.{Weights}

privileges : (changed : Bool) {weight : ℕ} → Contains (privileges_required changed) weight → weight ≤ 100
privileges false = weight_bound (privileges_required false) _ 100 refl
privileges true = weight_bound (privileges_required true) _ 100 refl

pub bounded : (w : Weights) → AreOfTables w → AreBounded w
bounded w are = record {
  av = weight_bound attack_vectors w.av 100 refl are.av;
  ac = weight_bound attack_complexities w.ac 100 refl are.ac;
  pr = privileges w.changed are.pr;
  ui = weight_bound user_interactions w.ui 100 refl are.ui;
  c = weight_bound impacts w.c 56 refl are.c;
  i = weight_bound impacts w.i 56 refl are.i;
  a = weight_bound impacts w.a 56 refl are.a;
  e = weight_bound exploit_code_maturities w.e 100 refl are.e;
  rl = weight_bound remediation_levels w.rl 100 refl are.rl;
  rc = weight_bound report_confidences w.rc 100 refl are.rc;
  cr = weight_bound requirements w.cr 150 refl are.cr;
  ir = weight_bound requirements w.ir 150 refl are.ir;
  ar = weight_bound requirements w.ar 150 refl are.ar;
  mav = weight_bound attack_vectors w.mav 100 refl are.mav;
  mac = weight_bound attack_complexities w.mac 100 refl are.mac;
  mpr = privileges w.modified_changed are.mpr;
  mui = weight_bound user_interactions w.mui 100 refl are.mui;
  mc = weight_bound impacts w.mc 56 refl are.mc;
  mi = weight_bound impacts w.mi 56 refl are.mi;
  ma = weight_bound impacts w.ma 56 refl are.ma;
}
