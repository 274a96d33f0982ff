-- A vector with all base metrics has exploitability.
use Rattle.std.specs.Prelude.{is_some}
use Rattle.std.proofs.Common.{◌≡◌, ℕ, ◌<◌, ltb, eqb, Bool, true, false, Option, Some, None, refl, arith, rules, lit<}
use Rattle.std.proofs.Math.Nat.{mul-pos}
use Rattle.std.proofs.lemmas.Bool.{ltb-true}
use Rattle.std.proofs.lemmas.Bool.Decides.{nat_tests}
use Rattle.cvss_base.specs.declared.v3.MetricType.TheVariants.{AC, AV, PR, UI}
use Rattle.cvss_metric.specs.v3.Table.{Value}
use Rattle.cvss_metric.specs.declared.v3.environmental.modified.Modified.{Modified}
use Rattle.cvss_metric.specs.declared.v3.environmental.modified.Modified.TheVariants as modified
use Rattle.cvss_score.specs.v3.Weighing.{effective, weight_at, privileges_weight}
use Rattle.cvss_score.specs.v3.private.Units.{modified_parts}
use Rattle.cvss_vector.specs.declared.v3.vector.Vector.{Vector}
use Rattle.cvss_vector.specs.v3.Complete.{first_missing_base}
use Rattle.cvss_vector.specs.v3.VectorWeights.{weights_of}

-- a modified metric with a base metric has a value
effective_some : {X : Type 0} (m : Option (Modified X)) (b : Option X) → is_some b ≡ true
    → is_some (effective m b) ≡ true
effective_some None b some = some
effective_some (Some modified.NotDefined) b some = some
effective_some (Some (modified.Modified x)) b some = refl

av_some : (value : Option (Value AV)) → is_some value ≡ true → ltb 0 (weight_at AV value) ≡ true
av_some = search rules

ac_some : (value : Option (Value AC)) → is_some value ≡ true → ltb 0 (weight_at AC value) ≡ true
ac_some = search rules

ui_some : (value : Option (Value UI)) → is_some value ≡ true → ltb 0 (weight_at UI value) ≡ true
ui_some = search rules

pr_some : (changed : Bool) (value : Option (Value PR)) → is_some value ≡ true
    → ltb 0 (privileges_weight changed value) ≡ true
pr_some false = search rules
pr_some true = search rules

record AreThere (v : Vector) : Type 0 where
  av : is_some v.av ≡ true
  ac : is_some v.ac ≡ true
  pr : is_some v.pr ≡ true
  ui : is_some v.ui ≡ true

base_there : (v : Vector) → first_missing_base v ≡ None → AreThere v
base_there v none = search rules

some_units : (n : ℕ) → 0 < n → eqb n 0 ≡ false
some_units n some = grind (arith, nat_tests)

pub has_exploitability : (v : Vector) → first_missing_base v ≡ None
    → eqb (modified_parts (weights_of v)).exploitability 0 ≡ false
has_exploitability v none =
    let has = base_there v none in
    let w = weights_of v in
    let av = ltb-true 0 w.mav (av_some _ (effective_some v.mav v.av has.av)) in
    let ac = ltb-true 0 w.mac (ac_some _ (effective_some v.mac v.ac has.ac)) in
    let pr = ltb-true 0 w.mpr (pr_some w.modified_changed _ (effective_some v.mpr v.pr has.pr)) in
    let ui = ltb-true 0 w.mui (ui_some _ (effective_some v.mui v.ui has.ui)) in
    some_units _ (mul-pos (mul-pos (mul-pos (mul-pos {m = 822} (lit< tt) av) ac) pr) ui)
