-- How a rejection is reported: its message, and in a struct the number of its kind, the index of the metric that is rejected,
-- the abbreviation of the metric that the message names, and where the message quotes a part of the text.
use Rattle.std.specs.Prelude.{ℕ, ℤ, pos, List, [], ◌++◌, codes, length, Option, None, Some}
use Rattle.cvss_base.specs.Rejection.{Rejection, BadComponent, WrongPrefix, WrongVersion, UnknownName, BadValue, Repeated, Missing}
use Rattle.cvss_vector.specs.MetricTypes.{name_of, words_of}
use Rattle.cvss_vector.specs.Reasons.{not_utf8_text, reason_text}
use Rattle.cvss_vector.specs.declared.metric_type.MetricType.{MetricType}
use Rattle.cvss_ffi.specs.Metrics.{padded}
use Rattle.cvss_ffi.specs.Scores.{nothing}
use Rattle.cvss_ffi.specs.declared.error.CvssError.{CvssError}

-- the number of a reason's kind
abbrev pub kind_number : Rejection MetricType → ℤ
kind_number (BadComponent _) = pos 1
kind_number (WrongPrefix _) = pos 2
kind_number (WrongVersion _) = pos 3
kind_number (UnknownName _) = pos 4
kind_number (BadValue _ _) = pos 5
kind_number (Repeated _) = pos 6
kind_number (Missing _) = pos 7

-- the abbreviation of the metric that a message names, if it names one
abbrev pub named_metric : Rejection MetricType → List ℕ
named_metric (BadValue metric _) = name_of metric
named_metric (Repeated metric) = name_of metric
named_metric (Missing metric) = name_of metric
named_metric _ = []

-- the part of a text that a message quotes, if it quotes one
abbrev pub quoted_part : Rejection MetricType → List ℕ
quoted_part (BadComponent component) = component
quoted_part (WrongPrefix prefix) = prefix
quoted_part (WrongVersion version) = version
quoted_part (UnknownName name) = name
quoted_part (BadValue _ value) = value
quoted_part _ = []

-- what stands in a message before the part that it quotes; nothing, where it quotes none
abbrev pub before_quoted : Rejection MetricType → List ℕ
before_quoted (BadComponent _) = codes "invalid CVSS metric group component: `"
before_quoted (WrongPrefix _) = codes "invalid CVSS string prefix: `"
before_quoted (WrongVersion _) = codes "unsupported CVSS version: "
before_quoted (UnknownName _) = codes "unknown CVSS metric name: `"
before_quoted (BadValue metric _) = codes "invalid " ++ (words_of metric ++ codes ": `")
before_quoted _ = []

-- a rejection as it is reported
pub record Report : Type 0 where
  pub kind : ℤ
  pub index : ℤ
  pub metric : List ℕ
  pub message : List ℕ
  pub quoted_start : ℕ
  pub quoted : List ℕ

-- an index as C has it
abbrev pub index_number : Option ℕ → ℤ
index_number None = nothing
index_number (Some index) = pos index

-- a rejection for a reason, with such an index
abbrev pub report_at : ℤ → Rejection MetricType → Report
report_at index reason = record {
  kind = kind_number reason;
  index = index;
  metric = named_metric reason;
  message = reason_text reason;
  quoted_start = length (before_quoted reason);
  quoted = quoted_part reason;
}

-- the same; of metrics, with the index of the one that is rejected
abbrev pub report_of : Option ℕ → Rejection MetricType → Report
report_of index reason = report_at (index_number index) reason

-- a rejection whose message names no metric and quotes nothing
abbrev pub reported_plainly : ℤ → List ℕ → Report
reported_plainly kind message = record { kind = kind; index = nothing; metric = []; message = message; quoted_start = 0; quoted = [] }

-- that of a text, or of metrics, that are not UTF-8
abbrev pub not_utf8 : Report
not_utf8 = reported_plainly (pos 8) not_utf8_text

-- that of a number that is none of a version
abbrev pub no_version : Report
no_version = reported_plainly (pos 3) (codes "unsupported CVSS version")

-- how many bytes an error has
abbrev pub error_size : ℕ
error_size = 40

-- a rejection, and that there is none, in a struct of such a size
abbrev pub error_of : ℕ → Report → CvssError
error_of size reported = record {
  size = size;
  kind = reported.kind;
  index = reported.index;
  reserved = pos 0;
  metric = padded reported.metric;
  quoted_start = reported.quoted_start;
  quoted_length = length reported.quoted;
}

abbrev pub no_error : ℕ → CvssError
no_error size = record { size = size; kind = pos 0; index = nothing; reserved = pos 0; metric = padded []; quoted_start = 0; quoted_length = 0 }
