-- The base metrics, each of which has to be in a vector: v3.1 specification, section 6, and Table 15. The parser
-- accepts texts that lack some.
use Rattle.std.specs.Prelude.{[], ◌∷◌, List, not, find, Option, is_some}
use Rattle.cvss_base.specs.declared.v3.MetricType.{MetricType}
use Rattle.cvss_base.specs.declared.v3.MetricType.TheVariants.{A, AC, AV, C, I, PR, S, UI}
use Rattle.cvss_vector.specs.v3.Vector.{value_at}
use Rattle.cvss_vector.specs.declared.v3.vector.Vector.{Vector}

-- the base metrics, in the order of the specification
abbrev pub base_metrics : List MetricType
base_metrics = AV ∷ AC ∷ PR ∷ UI ∷ S ∷ C ∷ I ∷ A ∷ []

-- the first base metric that a vector lacks
abbrev pub first_missing_base : Vector → Option MetricType
first_missing_base vector = find (λ kind. not (is_some (value_at vector kind))) base_metrics
