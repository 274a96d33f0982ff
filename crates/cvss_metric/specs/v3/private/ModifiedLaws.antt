-- What holds of a modified metric, by the laws of its base metric alone.
use Rattle.std.specs.Prelude.{◌≡◌, Bool, true, false, is_some, IsSome, Option, Some}
use Rattle.std.proofs.Common.{◌∙◌, ap, sym, rules}
use Rattle.cvss_base.specs.Equality.{EqualsByValue}
use Rattle.cvss_base.specs.declared.v3.MetricType.{MetricType}
use Rattle.cvss_base.specs.declared.v3.MetricType.TheVariants.{A as availability}
use Rattle.cvss_metric.specs.declared.v3.environmental.modified.Modified.{Modified}
use Rattle.cvss_metric.specs.declared.v3.environmental.modified.Modified.TheVariants.{NotDefined, Modified as Set}
use Rattle.cvss_metric.specs.v3.BaseMetrics.{IsBaseValue}
use Rattle.cvss_metric.specs.v3.Modified.{modified_spelling}
use Rattle.cvss_metric.specs.v3.Table.{Value, AnyValue, spelling_of, weight_of, modified_of, replacing, replacing_value, modified_value}

-- what holds of each metric that can be modified, checked metric by metric
value_spelled : (kind : MetricType) → IsSome (modified_of kind) → (x : Modified (Value kind)) → spelling_of (replacing kind) (replacing_value kind x) ≡ modified_spelling (spelling_of kind) x
value_spelled availability = search rules
value_spelled _ = search rules

undefined_weight : (kind : MetricType) → IsSome (modified_of kind) → Some 0 ≡ weight_of (replacing kind) (replacing_value kind NotDefined)
undefined_weight availability = search rules
undefined_weight _ = search rules

set_weight : (kind : MetricType) → IsSome (modified_of kind) → (x : Value kind) → IsSome (weight_of kind x) → Some 0 ≡ weight_of (replacing kind) (replacing_value kind (Set x))
set_weight availability = search rules
set_weight _ = search rules

module _ {A : Type 0} {kind modified_kind : MetricType} {value : A → Value kind} {own : Modified A → Option AnyValue} (base : IsBaseValue kind modified_kind value own) where
  some : IsSome (modified_of kind)
  some = ap is_some base.replaced

  -- a modified value is spelled X, or as the one that is set
  pub spelled : (x : Modified A) → spelling_of (replacing kind) (modified_value kind value own x) ≡ modified_spelling (λ y. spelling_of kind (value y)) x
  spelled NotDefined = rw (base.own_is NotDefined) (value_spelled kind some NotDefined)
  spelled (Set x) = rw (base.own_is (Set x)) (value_spelled kind some (Set (value x)))

  -- it weighs nothing of its own
  pub weight : (x : Modified A) → Some 0 ≡ weight_of (replacing kind) (modified_value kind value own x)
  weight NotDefined = rw (base.own_is NotDefined) (undefined_weight kind some)
  weight (Set x) = rw (base.own_is (Set x)) (set_weight kind some (value x) (base.weighed x))

-- modified values, where those of the base metric are equal by value, are so too
pub modified_equality : {A : Type 0} {equals : A → A → Bool} (in_turn : Modified A → Modified A → Bool) → EqualsByValue equals
    → in_turn NotDefined NotDefined ≡ true
    → ((y : A) → in_turn NotDefined (Set y) ≡ false)
    → ((x : A) → in_turn (Set x) NotDefined ≡ false)
    → ((x y : A) → in_turn (Set x) (Set y) ≡ equals x y)
    → EqualsByValue in_turn
modified_equality in_turn base same before after set NotDefined NotDefined = (λ e. cc, λ e. same)
modified_equality in_turn base same before after set NotDefined (Set y) = (λ e. absurd (cc (before y)), λ e. absurd cc)
modified_equality in_turn base same before after set (Set x) NotDefined = (λ e. absurd (cc (after x)), λ e. absurd cc)
modified_equality in_turn base same before after set (Set x) (Set y) = (λ e. ap Set ((base x y).0 (sym (set x y) ∙ e)), λ e. set x y ∙ (base x y).1 cc)
