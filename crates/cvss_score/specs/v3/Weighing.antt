-- What a metric's value weighs, and which value counts where a metric is modified: v3.1 specification, sections 2.1 to 4.2
-- (a metric that is Not Defined is skipped by the equations, a modified metric replaces its base metric) and 7.4.
use Rattle.std.specs.Prelude.{ℕ, Bool, true, false, Option, Some, None}
use Rattle.cvss_base.specs.declared.v3.MetricType.{MetricType}
use Rattle.cvss_base.specs.declared.v3.MetricType.TheVariants.{A, AC, AV, C, I, PR, S, UI, E, RL, RC, CR, IR, AR, MAV, MAC, MPR, MUI, MS, MC, MI, MA}
use Rattle.cvss_score.specs.declared.v3.weights.Weights.{Weights}
use Rattle.cvss_metric.specs.v3.Modified.{replaced, weight_or}
use Rattle.cvss_metric.specs.v3.Table.{Value, weight_of, absent_weight, scoped_weight}
use Rattle.cvss_metric.specs.declared.v3.base.access.PrivilegesRequired.{PrivilegesRequired}
use Rattle.cvss_metric.specs.declared.v3.base.scope.Scope.{Scope}
use Rattle.cvss_metric.specs.declared.v3.base.scope.Scope.TheVariants as scope
use Rattle.cvss_metric.specs.declared.v3.environmental.modified.Modified.{Modified}
use Rattle.cvss_metric.specs.declared.v3.environmental.modified.ModifiedScope.{ModifiedScope}
use Rattle.cvss_metric.specs.declared.v3.environmental.modified.ModifiedScope.TheVariants as modified_scope

-- the weight of a value of a metric: where there is none that of Not Defined, and 0 of a base metric
abbrev pub weight_at : (kind : MetricType) → Option (Value kind) → ℕ
weight_at kind value = weight_or (weight_of kind) value (absent_weight kind)

-- that of Privileges Required, by whether the scope is changed
abbrev pub privileges_weight : Bool → Option PrivilegesRequired → ℕ
privileges_weight changed value = weight_or (λ privileges. Some (scoped_weight changed privileges)) value 0

-- a modified metric replaces its base metric where it is defined
abbrev pub effective : {X : Type 0} → Option (Modified X) → Option X → Option X
effective None base = base
effective (Some modified) base = replaced modified base

-- the modified scope replaces the scope where it is defined
abbrev pub effective_scope : Option ModifiedScope → Option Scope → Option Scope
effective_scope (Some (modified_scope.Modified value)) base = Some value
effective_scope _ base = base

-- an absent scope is unchanged
abbrev pub is_changed : Option Scope → Bool
is_changed (Some scope.Changed) = true
is_changed _ = false

-- the weight of a metric, which the scopes have not
abbrev pub weight_in : Weights → MetricType → Option ℕ
weight_in w AV = Some w.av
weight_in w AC = Some w.ac
weight_in w PR = Some w.pr
weight_in w UI = Some w.ui
weight_in w S = None
weight_in w C = Some w.c
weight_in w I = Some w.i
weight_in w A = Some w.a
weight_in w E = Some w.e
weight_in w RL = Some w.rl
weight_in w RC = Some w.rc
weight_in w CR = Some w.cr
weight_in w IR = Some w.ir
weight_in w AR = Some w.ar
weight_in w MAV = Some w.mav
weight_in w MAC = Some w.mac
weight_in w MPR = Some w.mpr
weight_in w MUI = Some w.mui
weight_in w MS = None
weight_in w MC = Some w.mc
weight_in w MI = Some w.mi
weight_in w MA = Some w.ma
