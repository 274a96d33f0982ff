-- Each value has a place among the spellings of its metric.
use Rattle.std.specs.Prelude.{◌≡◌, ◌<◌, ℕ, zero, suc, List, [], ◌∷◌, Bool, true, eqb, length, get_or, refl}
use Rattle.std.specs.List.{list_all}
use Rattle.std.proofs.Common.{rules, sym, subst}
use Rattle.std.proofs.lemmas.Bool.{and_parts, eqb-true}
use Rattle.cvss_base.specs.declared.v4.MetricType.{MetricType}
use Rattle.cvss_base.specs.declared.v4.MetricType.TheVariants as metric
use Rattle.cvss_metric.specs.v4.Places.{two_rank, three_rank, four_rank, five_rank}
use Rattle.cvss_metric.specs.v4.Table.{spellings_of, with_two, two_kind, with_three, three_kind, with_four, four_kind, with_five, five_kind}
use Rattle.cvss_metric.specs.declared.v4.place.OneOfTwo.{OneOfTwo}
use Rattle.cvss_metric.specs.declared.v4.place.OneOfThree.{OneOfThree}
use Rattle.cvss_metric.specs.declared.v4.place.OneOfFour.{OneOfFour}
use Rattle.cvss_metric.specs.declared.v4.place.OneOfFive.{OneOfFive}

-- whether a metric has so many values
abbrev has : ℕ → MetricType → Bool
has count kind = eqb (length (spellings_of kind)) count

-- where all metrics have so many, each has
counted : (count : ℕ) (kinds : List MetricType) (number : ℕ) (other : MetricType) → list_all (has count) kinds ≡ true → has count other ≡ true → length (spellings_of (get_or kinds number other)) ≡ count
counted count [] number other all own = eqb-true _ _ own
counted count (kind ∷ kinds) zero other all own = eqb-true _ _ (and_parts _ _ all).0
counted count (kind ∷ kinds) (suc number) other all own = counted count kinds number other (and_parts (has count kind) _ all).1 own

pub two_count : (number : ℕ) → length (spellings_of (two_kind number)) ≡ 2
two_count number = counted 2 with_two number metric.AC refl refl

pub two_within : (number : ℕ) (value : OneOfTwo number) → two_rank value < length (spellings_of (two_kind number))
two_within number value = subst (λ count. two_rank value < count) (sym (two_count number)) (below value) where
  below : (value : OneOfTwo number) → two_rank value < 2
  below = search rules

pub three_count : (number : ℕ) → length (spellings_of (three_kind number)) ≡ 3
three_count number = counted 3 with_three number metric.PR refl refl

pub three_within : (number : ℕ) (value : OneOfThree number) → three_rank value < length (spellings_of (three_kind number))
three_within number value = subst (λ count. three_rank value < count) (sym (three_count number)) (below value) where
  below : (value : OneOfThree number) → three_rank value < 3
  below = search rules

pub four_count : (number : ℕ) → length (spellings_of (four_kind number)) ≡ 4
four_count number = counted 4 with_four number metric.AV refl refl

pub four_within : (number : ℕ) (value : OneOfFour number) → four_rank value < length (spellings_of (four_kind number))
four_within number value = subst (λ count. four_rank value < count) (sym (four_count number)) (below value) where
  below : (value : OneOfFour number) → four_rank value < 4
  below = search rules

pub five_count : (number : ℕ) → length (spellings_of (five_kind number)) ≡ 5
five_count number = counted 5 with_five number metric.MAV refl refl

pub five_within : (number : ℕ) (value : OneOfFive number) → five_rank value < length (spellings_of (five_kind number))
five_within number value = subst (λ count. five_rank value < count) (sym (five_count number)) (below value) where
  below : (value : OneOfFive number) → five_rank value < 5
  below = search rules
