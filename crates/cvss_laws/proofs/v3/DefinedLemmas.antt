-- A metric that is X and one that is absent give the same weights.
use Rattle.std.specs.List.{list_any}
use Rattle.std.proofs.Common.{◌≡◌, ◌≢◌, Bool, false, ◌⊎◌, inl, inr, bytes_eq, codes, Option, Some, None, IfSome, refl, rules, sym, ap, ◌∙◌}
use Rattle.cvss_base.specs.Text.{uppercased}
use Rattle.cvss_base.specs.declared.v3.MetricType.{MetricType}
use Rattle.cvss_base.specs.declared.v3.MetricType.TheVariants.{A, AC, AV, C, I, PR, S, UI, E, RL, RC, CR, IR, AR, MAV, MAC, MPR, MUI, MS, MC, MI, MA}
use Rattle.cvss_metric.specs.v3.Table.{Value, rows_of, spelling_of}
use Rattle.cvss_metric.specs.v3.private.TableLaws.{one_value}
use Rattle.cvss_metric.specs.declared.v3.temporal.ExploitCodeMaturity.TheVariants as exploit_code_maturity
use Rattle.cvss_metric.specs.declared.v3.temporal.RemediationLevel.TheVariants as remediation_level
use Rattle.cvss_metric.specs.declared.v3.temporal.ReportConfidence.TheVariants as report_confidence
use Rattle.cvss_metric.specs.declared.v3.environmental.requirement.ConfidentialityRequirement.TheVariants as confidentiality_requirement
use Rattle.cvss_metric.specs.declared.v3.environmental.requirement.IntegrityRequirement.TheVariants as integrity_requirement
use Rattle.cvss_metric.specs.declared.v3.environmental.requirement.AvailabilityRequirement.TheVariants as availability_requirement
use Rattle.cvss_metric.specs.declared.v3.environmental.modified.Modified.TheVariants.{NotDefined}
use Rattle.cvss_metric.specs.declared.v3.environmental.modified.ModifiedScope.TheVariants as modified_scope
use Rattle.cvss_vector.specs.declared.v3.vector.Vector.{Vector}
use Rattle.cvss_laws.specs.v3.ScoreLaws.{DefineTheSame}
use Rattle.cvss_vector.specs.v3.Vector.{value_at}
use Rattle.cvss_vector.specs.v3.VectorWeights.{weights_of}
use Rattle.cvss_score.specs.v3.Weighing.{weight_at, privileges_weight, effective, effective_scope, is_changed}

-- whether the metric has the value X
abbrev has_undefined : MetricType → Bool
has_undefined kind = list_any (λ row. bytes_eq row.0 (codes "X")) (rows_of kind)

-- no value is X where the metric has no X
none_undefined : (kind : MetricType) (value : Value kind) → has_undefined kind ≡ false → spelling_of kind value ≢ codes "X"
none_undefined A = search rules
none_undefined _ = search rules

-- there is no value, or it is X
abbrev IsUndefined : (kind : MetricType) → Option (Value kind) → Type 0
IsUndefined kind value = IfSome value (λ each. spelling_of kind each ≡ codes "X")

-- one value, or neither is defined
abbrev AreTheSame : (kind : MetricType) → Option (Value kind) → Option (Value kind) → Type 0
AreTheSame kind v w = (v ≡ w) ⊎ (IsUndefined kind v × IsUndefined kind w)

-- a metric without the value X that is not defined is absent
absent : (kind : MetricType) → has_undefined kind ≡ false → (value : Option (Value kind)) → IsUndefined kind value → value ≡ None
absent kind none None undefined = refl
absent kind none (Some value) undefined = absurd (none_undefined kind value none undefined)

base_same : (kind : MetricType) → has_undefined kind ≡ false → (v w : Option (Value kind)) → AreTheSame kind v w → v ≡ w
base_same kind none v w (inl one) = one
base_same kind none v w (inr (left, right)) = absent kind none v left ∙ sym (absent kind none w right)

-- what is the same of X and of an absent metric, is that of an absent metric where this one is not defined
as_absent : {B : Type 0} (kind : MetricType) (x : Value kind) → spelling_of kind x ≡ codes "X" → (of : Option (Value kind) → B) → of (Some x) ≡ of None
    → (value : Option (Value kind)) → IsUndefined kind value → of value ≡ of None
as_absent kind x is of same None undefined = refl
as_absent kind x is of same (Some value) undefined =
    ap (λ each. of (Some each)) (one_value kind value x (ap uppercased (undefined ∙ sym is))) ∙ same

optional_same : {B : Type 0} (kind : MetricType) (x : Value kind) → spelling_of kind x ≡ codes "X" → (of : Option (Value kind) → B) → of (Some x) ≡ of None
    → (v w : Option (Value kind)) → AreTheSame kind v w → of v ≡ of w
optional_same kind x is of same v w (inl one) = ap of one
optional_same kind x is of same v w (inr (left, right)) = as_absent kind x is of same v left ∙ sym (as_absent kind x is of same w right)

-- and so it is of a modified metric and its base metric
modified_same : {B C : Type 0} (kind : MetricType) (x : Value kind) → spelling_of kind x ≡ codes "X" → (of : Option (Value kind) → B → C) (v w : Option (Value kind)) (b c : B)
    → of (Some x) b ≡ of None b → AreTheSame kind v w → b ≡ c → of v b ≡ of w c
modified_same kind x is of v w b c same one base = optional_same kind x is (λ value. of value b) same v w one ∙ ap (of w) base

module _ (v w : Vector) (same : DefineTheSame v w) where
  base : (kind : MetricType) → has_undefined kind ≡ false → value_at v kind ≡ value_at w kind
  base kind none = base_same kind none (value_at v kind) (value_at w kind) (same kind)

  optional : (kind : MetricType) (x : Value kind) → spelling_of kind x ≡ codes "X" → weight_at kind (Some x) ≡ weight_at kind None
      → weight_at kind (value_at v kind) ≡ weight_at kind (value_at w kind)
  optional kind x is weighs = optional_same kind x is (weight_at kind) weighs (value_at v kind) (value_at w kind) (same kind)

  modified_scope_same : effective_scope v.ms v.s ≡ effective_scope w.ms w.s
  modified_scope_same = modified_same MS modified_scope.NotDefined refl effective_scope v.ms w.ms v.s w.s refl (same MS) (base S refl)

  pub one_weights : weights_of v ≡ weights_of w
  one_weights = λ at. record {
    av = weight_at AV (base AV refl at);
    ac = weight_at AC (base AC refl at);
    pr = privileges_weight (is_changed (base S refl at)) (base PR refl at);
    ui = weight_at UI (base UI refl at);
    changed = is_changed (base S refl at);
    c = weight_at C (base C refl at);
    i = weight_at I (base I refl at);
    a = weight_at A (base A refl at);
    e = optional E exploit_code_maturity.NotDefined refl refl at;
    rl = optional RL remediation_level.NotDefined refl refl at;
    rc = optional RC report_confidence.NotDefined refl refl at;
    cr = optional CR confidentiality_requirement.NotDefined refl refl at;
    ir = optional IR integrity_requirement.NotDefined refl refl at;
    ar = optional AR availability_requirement.NotDefined refl refl at;
    mav = weight_at AV (modified_same MAV NotDefined refl effective v.mav w.mav v.av w.av refl (same MAV) (base AV refl) at);
    mac = weight_at AC (modified_same MAC NotDefined refl effective v.mac w.mac v.ac w.ac refl (same MAC) (base AC refl) at);
    mpr = privileges_weight (is_changed (modified_scope_same at)) (modified_same MPR NotDefined refl effective v.mpr w.mpr v.pr w.pr refl (same MPR) (base PR refl) at);
    mui = weight_at UI (modified_same MUI NotDefined refl effective v.mui w.mui v.ui w.ui refl (same MUI) (base UI refl) at);
    modified_changed = is_changed (modified_scope_same at);
    mc = weight_at C (modified_same MC NotDefined refl effective v.mc w.mc v.c w.c refl (same MC) (base C refl) at);
    mi = weight_at I (modified_same MI NotDefined refl effective v.mi w.mi v.i w.i refl (same MI) (base I refl) at);
    ma = weight_at A (modified_same MA NotDefined refl effective v.ma w.ma v.a w.a refl (same MA) (base A refl) at);
  }
