-- What private code seeks in a text.
use Rattle.std.specs.Prelude.{ℕ, List}
use Rattle.cvss_matches.specs.Parts.{encoded_metrics_of_v2, metrics_after_v2, slashes}
use Rattle.cvss_matches.specs.declared.unprefixed.Sought.{Sought}
use Rattle.cvss_matches.specs.declared.unprefixed.Sought.TheVariants.{Slash, MetricAfterV2, EncodedMetricOfV2}

abbrev pub patterns_of : Sought → List (List ℕ)
patterns_of Slash = slashes
patterns_of MetricAfterV2 = metrics_after_v2
patterns_of EncodedMetricOfV2 = encoded_metrics_of_v2
