-- When two errors say the same.
use Rattle.std.specs.Prelude.{◌≡◌}
use Rattle.std.specs.String.{string_bytes}
use Rattle.cvss_base.specs.declared.error.Error.{Error}
use Rattle.cvss_base.specs.declared.error.Error.TheVariants.{InvalidComponent, InvalidPrefix, UnsupportedVersion, InvalidMetricV2, DuplicateMetricV2, MissingMandatoryMetricV2, InvalidMetricV3, DuplicateMetricV3, InvalidMetricV4, DuplicateMetricV4, MissingMandatoryMetricV4, InvalidNomenclatureV4, InvalidSeverity, UnknownMetric, OutOfMemory}

-- two errors are of one kind, and name the same metric and the same bytes
abbrev pub ReportTheSame : Error → Error → Type 0
ReportTheSame (InvalidComponent x) (InvalidComponent y) = string_bytes x ≡ string_bytes y
ReportTheSame (InvalidPrefix x) (InvalidPrefix y) = string_bytes x ≡ string_bytes y
ReportTheSame (UnsupportedVersion x) (UnsupportedVersion y) = string_bytes x ≡ string_bytes y
ReportTheSame (InvalidMetricV2 kind x) (InvalidMetricV2 other y) = (kind ≡ other) × (string_bytes x ≡ string_bytes y)
ReportTheSame (DuplicateMetricV2 kind) (DuplicateMetricV2 other) = kind ≡ other
ReportTheSame (MissingMandatoryMetricV2 kind) (MissingMandatoryMetricV2 other) = kind ≡ other
ReportTheSame (InvalidMetricV3 kind x) (InvalidMetricV3 other y) = (kind ≡ other) × (string_bytes x ≡ string_bytes y)
ReportTheSame (DuplicateMetricV3 kind) (DuplicateMetricV3 other) = kind ≡ other
ReportTheSame (InvalidMetricV4 kind x) (InvalidMetricV4 other y) = (kind ≡ other) × (string_bytes x ≡ string_bytes y)
ReportTheSame (DuplicateMetricV4 kind) (DuplicateMetricV4 other) = kind ≡ other
ReportTheSame (MissingMandatoryMetricV4 kind) (MissingMandatoryMetricV4 other) = kind ≡ other
ReportTheSame (InvalidNomenclatureV4 x) (InvalidNomenclatureV4 y) = string_bytes x ≡ string_bytes y
ReportTheSame (InvalidSeverity x) (InvalidSeverity y) = string_bytes x ≡ string_bytes y
ReportTheSame (UnknownMetric x) (UnknownMetric y) = string_bytes x ≡ string_bytes y
ReportTheSame OutOfMemory OutOfMemory = Unit {0}
ReportTheSame _ _ = ⊥
