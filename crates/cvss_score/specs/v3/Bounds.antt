-- The weights that the metrics of a vector can have, in hundredths: v3.0 specification, 8.4; v3.1 specification, 7.4. Of
-- these the equations make the scores.
use Rattle.std.specs.Prelude.{◌≤◌, ℕ, Bool, true, false, List, ◌∷◌, map, unwrap_or}
use Rattle.std.specs.List.{Contains}
use Rattle.cvss_base.specs.declared.v3.MetricType.{MetricType}
use Rattle.cvss_base.specs.declared.v3.MetricType.TheVariants.{AC, AV, C, PR, UI, E, RL, RC, CR}
use Rattle.cvss_metric.specs.v3.Table.{rows_of, changed_privileges}
use Rattle.cvss_score.specs.declared.v3.weights.Weights.{Weights}

-- the weights of a metric's values
abbrev pub weights_in : MetricType → List ℕ
weights_in kind = map (λ row. unwrap_or row.1 0) (rows_of kind)

-- those of the base metrics, where an absent one weighs 0
abbrev pub attack_vectors : List ℕ
attack_vectors = 0 ∷ weights_in AV

abbrev pub attack_complexities : List ℕ
attack_complexities = 0 ∷ weights_in AC

-- by whether the scope is changed
abbrev pub privileges_required : Bool → List ℕ
privileges_required false = 0 ∷ weights_in PR
privileges_required true = 0 ∷ changed_privileges

abbrev pub user_interactions : List ℕ
user_interactions = 0 ∷ weights_in UI

-- of Confidentiality, Integrity and Availability
abbrev pub impacts : List ℕ
impacts = 0 ∷ weights_in C

-- those of the optional metrics
abbrev pub exploit_code_maturities : List ℕ
exploit_code_maturities = weights_in E

abbrev pub remediation_levels : List ℕ
remediation_levels = weights_in RL

abbrev pub report_confidences : List ℕ
report_confidences = weights_in RC

-- of the Confidentiality, Integrity and Availability Requirement
abbrev pub requirements : List ℕ
requirements = weights_in CR

-- each weight is one that its metric can have, of the privileges by the scope or the modified scope
pub record AreOfTables (w : Weights) : Type 0 where
  pub av : Contains attack_vectors w.av
  pub ac : Contains attack_complexities w.ac
  pub pr : Contains (privileges_required w.changed) w.pr
  pub ui : Contains user_interactions w.ui
  pub c : Contains impacts w.c
  pub i : Contains impacts w.i
  pub a : Contains impacts w.a
  pub e : Contains exploit_code_maturities w.e
  pub rl : Contains remediation_levels w.rl
  pub rc : Contains report_confidences w.rc
  pub cr : Contains requirements w.cr
  pub ir : Contains requirements w.ir
  pub ar : Contains requirements w.ar
  pub mav : Contains attack_vectors w.mav
  pub mac : Contains attack_complexities w.mac
  pub mpr : Contains (privileges_required w.modified_changed) w.mpr
  pub mui : Contains user_interactions w.mui
  pub mc : Contains impacts w.mc
  pub mi : Contains impacts w.mi
  pub ma : Contains impacts w.ma

-- no weight is so great that a product is too great for the code
pub record AreBounded (w : Weights) : Type 0 where
  pub av : w.av ≤ 100
  pub ac : w.ac ≤ 100
  pub pr : w.pr ≤ 100
  pub ui : w.ui ≤ 100
  pub c : w.c ≤ 56
  pub i : w.i ≤ 56
  pub a : w.a ≤ 56
  pub e : w.e ≤ 100
  pub rl : w.rl ≤ 100
  pub rc : w.rc ≤ 100
  pub cr : w.cr ≤ 150
  pub ir : w.ir ≤ 150
  pub ar : w.ar ≤ 150
  pub mav : w.mav ≤ 100
  pub mac : w.mac ≤ 100
  pub mpr : w.mpr ≤ 100
  pub mui : w.mui ≤ 100
  pub mc : w.mc ≤ 56
  pub mi : w.mi ≤ 56
  pub ma : w.ma ≤ 56
