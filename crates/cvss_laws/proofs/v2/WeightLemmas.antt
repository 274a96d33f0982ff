-- A metric that is not defined weighs as much as one that is absent, so vectors that define the same have the same weights.
use Rattle.std.specs.Prelude.{codes, option_map, unwrap_or, IfSome}
use Rattle.std.proofs.Common.{◌≡◌, inl, inr, Option, Some, None, refl, rules, sym, ap, ◌∙◌}
use Rattle.cvss_base.specs.declared.v2.MetricType.{MetricType}
use Rattle.cvss_base.specs.declared.v2.MetricType.TheVariants.{A}
use Rattle.cvss_vector.specs.declared.v2.vector.Vector.{Vector}
use Rattle.cvss_laws.specs.v2.NotDefined.{DefineTheSame}
use Rattle.cvss_metric.specs.v2.Table.{Value, spelling_of, weight_of, absent_weight}
use Rattle.cvss_vector.specs.v2.Vector.{value_at}
use Rattle.cvss_vector.specs.v2.Weights.{weight_in, weights_by, weights_of}

-- a value that is spelled ND weighs as its absent metric
not_defined_weight : (kind : MetricType) (value : Value kind) → spelling_of kind value ≡ codes "ND" → weight_of kind value ≡ absent_weight kind
not_defined_weight A = search rules
not_defined_weight _ = search rules

undefined_weight : (kind : MetricType) (held : Option (Value kind)) → IfSome held (λ value. spelling_of kind value ≡ codes "ND")
    → unwrap_or (option_map (weight_of kind) held) (absent_weight kind) ≡ absent_weight kind
undefined_weight kind None is_not_defined = refl
undefined_weight kind (Some value) is_not_defined = not_defined_weight kind value is_not_defined

one_weight : (v w : Vector) → DefineTheSame v w → (kind : MetricType) → weight_in v kind ≡ weight_in w kind
one_weight v w same kind = elim (same kind) [
  | inl is_same ↦ ap (λ held. unwrap_or (option_map (weight_of kind) held) (absent_weight kind)) is_same
  | inr not_defined_both ↦ undefined_weight kind (value_at v kind) not_defined_both.0 ∙ sym (undefined_weight kind (value_at w kind) not_defined_both.1)
]

pub one_weights : (v w : Vector) → DefineTheSame v w → weights_of v ≡ weights_of w
one_weights v w same = λ i. weights_by (λ kind. one_weight v w same kind i)
