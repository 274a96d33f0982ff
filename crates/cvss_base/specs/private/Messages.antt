-- What the errors name.
use Rattle.std.specs.Prelude.{ℕ, List, []}
use Rattle.cvss_base.specs.declared.error.Error.{Error}
use Rattle.cvss_base.specs.declared.error.Error.TheVariants.{InvalidMetricV2, DuplicateMetricV2, MissingMandatoryMetricV2, InvalidMetricV3, DuplicateMetricV3, InvalidMetricV4, DuplicateMetricV4, MissingMandatoryMetricV4}
use Rattle.cvss_base.specs.V2Types as v2
use Rattle.cvss_base.specs.V3Types as v3
use Rattle.cvss_base.specs.V4Types as v4

-- the metric that an error names
abbrev pub metric_named : Error → List ℕ
metric_named (InvalidMetricV2 kind value) = v2.words_of kind
metric_named (DuplicateMetricV2 kind) = v2.words_of kind
metric_named (MissingMandatoryMetricV2 kind) = v2.words_of kind
metric_named (InvalidMetricV3 kind value) = v3.words_of kind
metric_named (DuplicateMetricV3 kind) = v3.words_of kind
metric_named (InvalidMetricV4 kind value) = v4.words_of kind
metric_named (DuplicateMetricV4 kind) = v4.words_of kind
metric_named (MissingMandatoryMetricV4 kind) = v4.words_of kind
metric_named error = []
