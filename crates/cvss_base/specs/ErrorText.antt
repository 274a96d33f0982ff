-- What each rejection says to a reader.
use Rattle.std.specs.Prelude.{ℕ, List, ◌++◌, codes}
use Rattle.std.specs.String.{string_bytes}
use Rattle.cvss_base.specs.declared.error.Error.{Error}
use Rattle.cvss_base.specs.declared.error.Error.TheVariants.{InvalidComponent, InvalidPrefix, UnsupportedVersion, InvalidMetricV2, DuplicateMetricV2, MissingMandatoryMetricV2, InvalidMetricV3, DuplicateMetricV3, InvalidMetricV4, DuplicateMetricV4, MissingMandatoryMetricV4, InvalidNomenclatureV4, InvalidSeverity, UnknownMetric, OutOfMemory}
use Rattle.cvss_base.specs.V2Types as v2
use Rattle.cvss_base.specs.V3Types as v3
use Rattle.cvss_base.specs.V4Types as v4

-- the text between back ticks
abbrev pub quoted : List ℕ → List ℕ
quoted text = codes "`" ++ text ++ codes "`"

-- the rejection's text
abbrev pub error_text : Error → List ℕ
error_text (InvalidComponent component) = codes "invalid CVSS metric group component: " ++ quoted (string_bytes component)
error_text (InvalidPrefix prefix) = codes "invalid CVSS string prefix: " ++ quoted (string_bytes prefix)
error_text (UnsupportedVersion version) = codes "unsupported CVSS version: " ++ string_bytes version
error_text (InvalidMetricV2 kind value) = codes "invalid " ++ v2.words_of kind ++ codes ": " ++ quoted (string_bytes value)
error_text (DuplicateMetricV2 kind) = codes "duplicate " ++ v2.words_of kind
error_text (MissingMandatoryMetricV2 kind) = codes "missing mandatory " ++ v2.words_of kind
error_text (InvalidMetricV3 kind value) = codes "invalid " ++ v3.words_of kind ++ codes ": " ++ quoted (string_bytes value)
error_text (DuplicateMetricV3 kind) = codes "duplicate " ++ v3.words_of kind
error_text (InvalidMetricV4 kind value) = codes "invalid " ++ v4.words_of kind ++ codes ": " ++ quoted (string_bytes value)
error_text (DuplicateMetricV4 kind) = codes "duplicate " ++ v4.words_of kind
error_text (MissingMandatoryMetricV4 kind) = codes "missing mandatory " ++ v4.words_of kind
error_text (InvalidNomenclatureV4 nomenclature) = codes "invalid CVSSv4 nomenclature: " ++ quoted (string_bytes nomenclature)
error_text (InvalidSeverity name) = codes "invalid CVSS Qualitative Severity Rating: " ++ quoted (string_bytes name)
error_text (UnknownMetric name) = codes "unknown CVSS metric name: " ++ quoted (string_bytes name)
error_text OutOfMemory = codes "out of memory"
