-- Vectors whose base number is negative with AdjustedImpact in the place of Impact: guide, sections 3.2.1 and 3.2.3.
use Rattle.std.specs.Prelude.{ℕ, List, codes, Bool, true, false, ◌&&◌, ◌||◌}
use Rattle.std.specs.Option.{option_map_or}
use Rattle.std.specs.Str.{bytes_eq}
use Rattle.cvss_base.specs.Exact.{whole, ◌⊏◌}
use Rattle.cvss_base.specs.Version.{held}
use Rattle.cvss_base.specs.declared.v2.MetricType.{MetricType}
use Rattle.cvss_base.specs.declared.v2.MetricType.TheVariants.{A, AC, AV, Au, C, I, CR, IR, AR}
use Rattle.cvss_score.specs.declared.v2.weights.Weights.{Weights}
use Rattle.cvss_score.specs.v2.Scores.{adjusted_impact, base_number, exploitability}
use Rattle.cvss_vector.specs.declared.v2.vector.Vector.{Vector}
use Rattle.cvss_vector.specs.v2.Vector.{v2}

-- ((0.6 * AdjustedImpact) + (0.4 * Exploitability) - 1.5) * f(AdjustedImpact) is below 0
abbrev pub HasNegativeBase : Weights → Type 0
HasNegativeBase w = base_number (adjusted_impact w) (exploitability w) ⊏ whole 0

-- the metric has this value
abbrev pub has : Vector → MetricType → List ℕ → Bool
has v kind value = option_map_or (λ own. bytes_eq own value) (held v2 v kind) false

-- the metric has this value, or the vector lacks it
abbrev pub has_or_lacks : Vector → MetricType → List ℕ → Bool
has_or_lacks v kind value = option_map_or (λ own. bytes_eq own value) (held v2 v kind) true

-- the vector lacks the metric
abbrev pub lacks : Vector → MetricType → Bool
lacks v kind = option_map_or (λ own. false) (held v2 v kind) true

-- AV:L/AC:H with Au:M or Au:S; or one of the three metrics is absent, so that Exploitability is 0
abbrev pub is_hardest : Vector → Bool
is_hardest v =
    (lacks v AV || (lacks v AC || lacks v Au))
    || (has v AV (codes "L") && (has v AC (codes "H") && (has v Au (codes "M") || has v Au (codes "S"))))

-- the one impact is P and its requirement L, and no other impact is there
abbrev pub is_low_alone : Vector → MetricType → MetricType → MetricType → MetricType → Bool
is_low_alone v impact requirement other another =
    (has v impact (codes "P") && has v requirement (codes "L"))
    && (has_or_lacks v other (codes "N") && has_or_lacks v another (codes "N"))

-- one low impact alone, of the hardest access
abbrev pub has_one_low_impact : Vector → Bool
has_one_low_impact v =
    is_hardest v && (is_low_alone v C CR I A || (is_low_alone v I IR C A || is_low_alone v A AR C I))
