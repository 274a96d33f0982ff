-- The modified base metrics, which replace the values of base metrics: CVSS v3.1 specification, section
-- 4.2.
use Rattle.std.specs.Prelude.{ℕ, ◌+◌, List, ◌∷◌, codes, map, Option, Some, unwrap_or}
use Rattle.std.specs.Option.{option_map_or}
use Rattle.cvss_metric.specs.declared.v3.environmental.modified.Modified.{Modified}
use Rattle.cvss_metric.specs.declared.v3.environmental.modified.Modified.TheVariants.{NotDefined, Modified as Set}

-- how a value is spelled, and its weight in hundredths, if it has one
abbrev pub ValueWeight : Type 0
ValueWeight = List ℕ × Option ℕ

-- the rows of a modified metric, by those of the base metric: X and the base metric's spellings; each weighs 0 of its own,
-- since the equations take the base metric's weight of the value that it puts in place
abbrev pub modified_rows : List ValueWeight → List ValueWeight
modified_rows rows = (codes "X", Some 0) ∷ map (λ row. (row.0, Some 0)) rows

-- the same, with another value for the one that is set
abbrev pub modified_map : {A B : Type 0} → (A → B) → Modified A → Modified B
modified_map f NotDefined = NotDefined
modified_map f (Set value) = Set (f value)

-- X where no value is set, and else as the value is spelled
abbrev pub modified_spelling : {A : Type 0} → (A → List ℕ) → Modified A → List ℕ
modified_spelling spelling NotDefined = codes "X"
modified_spelling spelling (Set value) = spelling value

-- X comes first among the values, and then those of the base metric in their order
abbrev pub modified_rank : {A : Type 0} → (A → ℕ) → Modified A → ℕ
modified_rank rank NotDefined = 0
modified_rank rank (Set value) = rank value + 1

-- the modified value where one is set, and else that of the base metric
abbrev pub replaced : {A : Type 0} → Modified A → Option A → Option A
replaced NotDefined base = base
replaced (Set value) base = Some value

-- the weight of a value in hundredths, or another where there is no value
abbrev pub weight_or : {A : Type 0} → (A → Option ℕ) → Option A → ℕ → ℕ
weight_or weight value absent = option_map_or (λ each. unwrap_or (weight each) 0) value absent
