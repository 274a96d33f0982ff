-- The weights of a vector are those of the tables.
use Rattle.std.specs.Prelude.{option_map, unwrap_or}
use Rattle.std.specs.List.{dedup, Contains}
use Rattle.std.proofs.Common.{◌≡◌, ℕ, ◌*◌, List, [], ◌∷◌, ◌++◌, map, true, eqb, Option, refl, rules}
use Rattle.cvss_base.specs.declared.v2.MetricType.{MetricType}
use Rattle.cvss_base.specs.declared.v2.MetricType.TheVariants.{A, AC, AV, Au, C, CR}
use Rattle.cvss_vector.specs.declared.v2.vector.Vector.{Vector}
use Rattle.cvss_metric.specs.v2.Table.{Value, rows_of, weight_of, absent_weight}
use Rattle.cvss_vector.specs.v2.Vector.{value_at}
use Rattle.cvss_vector.specs.v2.Weights.{weight_in}
use Rattle.cvss_base.proofs.TestLemmas.{passes_two, passes_three, is_listed, listed_if}

-- the weights of a metric, that of an absent one included
abbrev pub weights : MetricType → List ℕ
weights kind = dedup eqb (map (λ row. row.1) (rows_of kind) ++ (absent_weight kind ∷ []))

listed : (kind : MetricType) (held : Option (Value kind))
    → is_listed (weights kind) (unwrap_or (option_map (weight_of kind) held) (absent_weight kind)) ≡ true
listed A = search rules
listed _ = search rules

pub weight_listed : (v : Vector) (kind : MetricType) → Contains (weights kind) (weight_in v kind)
weight_listed v kind = listed_if (weights kind) (weight_in v kind) (listed kind (value_at v kind))

-- an impact times its requirement, in millionths
abbrev pub weighted_impacts : List ℕ
weighted_impacts = 0 ∷ 137_500 ∷ 275_000 ∷ 330_000 ∷ 415_250 ∷ 660_000 ∷ 996_600 ∷ []

pub weighted_listed : (impact requirement : ℕ) → Contains (weights C) impact → Contains (weights CR) requirement
    → Contains weighted_impacts (impact * requirement)
weighted_listed impact requirement is_impact is_requirement =
    listed_if weighted_impacts (impact * requirement)
    (passes_two (λ i r. is_listed weighted_impacts (i * r)) (weights C) (weights CR) impact requirement refl is_impact is_requirement)

-- 20 times the weights of the three access metrics
abbrev pub exploitabilities : List ℕ
exploitabilities =
    0 ∷ 1244250000 ∷ 1548400000 ∷ 1946560000 ∷ 2034900000 ∷ 2168550000 ∷ 2524050000 ∷ 2532320000 ∷ 2698640000 ∷
    3141040000 ∷ 3150000000 ∷ 3183488000 ∷ 3392576000 ∷ 3546540000 ∷ 3920000000 ∷ 3948736000 ∷ 4127940000 ∷
    4413472000 ∷ 4928000000 ∷ 5136992000 ∷ 5490000000 ∷ 5548364800 ∷ 6390000000 ∷ 6457932800 ∷ 6832000000 ∷
    7952000000 ∷ 8588800000 ∷ 9996800000 ∷ []

pub exploitability_listed : (v : Vector) → Contains exploitabilities (20 * weight_in v AV * weight_in v AC * weight_in v Au)
exploitability_listed v =
    listed_if exploitabilities (20 * weight_in v AV * weight_in v AC * weight_in v Au)
    (passes_three (λ av ac au. is_listed exploitabilities (20 * av * ac * au)) (weights AV) (weights AC) (weights Au)
    _ _ _ refl (weight_listed v AV) (weight_listed v AC) (weight_listed v Au))
