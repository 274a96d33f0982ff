-- That a modified metric has each value of the table, in its order, by the laws of its base metric alone.
use Rattle.std.specs.Prelude.{◌≡◌, ℕ, ◌+◌, is_some, IsSome, Option}
use Rattle.std.specs.Ordering.{nat_cmp}
use Rattle.std.specs.declared.cmp.Ordering.{Ordering}
use Rattle.std.specs.declared.cmp.Ordering.TheVariants.{Less, Equal, Greater}
use Rattle.std.proofs.Common.{◌∙◌, ap, arith, refl, rules}
use Rattle.std.proofs.lemmas.Grind.{common_steps}
use Rattle.cvss_base.specs.declared.v3.MetricType.{MetricType}
use Rattle.cvss_base.specs.declared.v3.MetricType.TheVariants.{A as availability, S}
use Rattle.cvss_metric.specs.declared.v3.environmental.modified.Modified.{Modified}
use Rattle.cvss_metric.specs.declared.v3.environmental.modified.Modified.TheVariants.{NotDefined, Modified as Set}
use Rattle.cvss_metric.specs.declared.v3.environmental.modified.ModifiedScope.TheVariants as scope
use Rattle.cvss_metric.specs.v3.BaseMetrics.{IsBaseValue}
use Rattle.cvss_metric.specs.v3.Modified.{modified_rank}
use Rattle.cvss_metric.specs.v3.Table.{Value, AnyValue, rank_of, modified_of, replacing, replacing_value, modified_value}

-- what holds of each metric that can be modified, checked metric by metric
value_ranked : (kind : MetricType) → IsSome (modified_of kind) → (x : Modified (Value kind)) → rank_of (replacing kind) (replacing_value kind x) ≡ modified_rank (rank_of kind) x
value_ranked availability = search rules
value_ranked _ = search rules

value_covered : (kind : MetricType) → IsSome (modified_of kind) → (y : Value (replacing kind)) → (x : Modified (Value kind)) × replacing_value kind x ≡ y
value_covered S is scope.NotDefined = (NotDefined, refl)
value_covered S is (scope.Modified value) = (Set value, refl)
value_covered availability is y = search rules
value_covered _ is y = search rules

module _ {A : Type 0} {kind modified_kind : MetricType} {value : A → Value kind} {own : Modified A → Option AnyValue} (base : IsBaseValue kind modified_kind value own) where
  some : IsSome (modified_of kind)
  some = ap is_some base.replaced

  -- it has a place after the one that is not defined, as the base metric's values have
  pub ranked : (x : Modified A) → rank_of (replacing kind) (modified_value kind value own x) ≡ modified_rank (λ y. rank_of kind (value y)) x
  ranked NotDefined = rw (base.own_is NotDefined) (value_ranked kind some NotDefined)
  ranked (Set x) = rw (base.own_is (Set x)) (value_ranked kind some (Set (value x)))

  -- each value of the table is a modified value
  pub covered : ((x : Value kind) → (metric : A) × value metric ≡ x) → (y : Value (replacing kind)) → (metric : Modified A) × modified_value kind value own metric ≡ y
  covered covers y = let (x, is) = value_covered kind some y in by_value x is where
    by_value : (x : Modified (Value kind)) → replacing_value kind x ≡ y → (metric : Modified A) × modified_value kind value own metric ≡ y
    by_value NotDefined is = (NotDefined, rw (base.own_is NotDefined) is)
    by_value (Set x) is = let set = covers x in (Set set.0, rw (base.own_is (Set set.0), set.1) is)

both_first : (m n : ℕ) → m ≡ 0 → n ≡ 0 → Equal ≡ nat_cmp m n
both_first m n first second = grind (arith, common_steps)

before_next : (m n k : ℕ) → m ≡ 0 → n ≡ k + 1 → Less ≡ nat_cmp m n
before_next m n k first next = grind (arith, common_steps)

after_first : (m n k : ℕ) → m ≡ k + 1 → n ≡ 0 → Greater ≡ nat_cmp m n
after_first m n k next first = grind (arith, common_steps)

both_next : (m n k l : ℕ) → m ≡ k + 1 → n ≡ l + 1 → nat_cmp k l ≡ nat_cmp m n
both_next m n k l next second = grind (arith, common_steps)

-- modified values, the one that is not defined first and the others as the base metric's, compare as
-- the ranks in the table do
pub modified_order : {A : Type 0} {compared : A → A → Ordering} (rank : A → ℕ) (place : Modified A → ℕ) (in_turn : Modified A → Modified A → Ordering) → ((x y : A) → compared x y ≡ nat_cmp (rank x) (rank y)) → ((x : Modified A) → place x ≡ modified_rank rank x)
    → in_turn NotDefined NotDefined ≡ Equal
    → ((y : A) → in_turn NotDefined (Set y) ≡ Less)
    → ((x : A) → in_turn (Set x) NotDefined ≡ Greater)
    → ((x y : A) → in_turn (Set x) (Set y) ≡ compared x y)
    → (x y : Modified A) → in_turn x y ≡ nat_cmp (place x) (place y)
modified_order rank place in_turn ordered is equal less greater set NotDefined NotDefined = equal ∙ both_first _ _ (is NotDefined) (is NotDefined)
modified_order rank place in_turn ordered is equal less greater set NotDefined (Set y) = less y ∙ before_next _ _ _ (is NotDefined) (is (Set y))
modified_order rank place in_turn ordered is equal less greater set (Set x) NotDefined = greater x ∙ after_first _ _ _ (is (Set x)) (is NotDefined)
modified_order rank place in_turn ordered is equal less greater set (Set x) (Set y) = set x y ∙ ordered x y ∙ both_next _ _ _ _ (is (Set x)) (is (Set y))
