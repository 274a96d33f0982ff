-- The metrics of all versions, by their abbreviations and their names: CVSS v2 guide, section 2; v3.1
-- specification, sections 2 to 4; v4.0 specification, sections 2 to 5.
use Rattle.std.specs.Prelude.{ℕ, List}
use Rattle.cvss_base.specs.V2Types as of_v2
use Rattle.cvss_base.specs.V3Types as of_v3
use Rattle.cvss_base.specs.V4Types as of_v4
use Rattle.cvss_vector.specs.declared.metric_type.MetricType.{MetricType}
use Rattle.cvss_vector.specs.declared.metric_type.MetricType.TheVariants.{V2, V3, V4}

-- the abbreviation that stands for a metric in a vector
abbrev pub name_of : MetricType → List ℕ
name_of (V2 metric) = of_v2.name_of metric
name_of (V3 metric) = of_v3.name_of metric
name_of (V4 metric) = of_v4.name_of metric

-- the metric's name
abbrev pub description_of : MetricType → List ℕ
description_of (V2 metric) = of_v2.description_of metric
description_of (V3 metric) = of_v3.description_of metric
description_of (V4 metric) = of_v4.description_of metric

-- the metric in messages
abbrev pub words_of : MetricType → List ℕ
words_of (V2 metric) = of_v2.words_of metric
words_of (V3 metric) = of_v3.words_of metric
words_of (V4 metric) = of_v4.words_of metric
