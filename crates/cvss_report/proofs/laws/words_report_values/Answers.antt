use Rattle.std.proofs.Common.{map, refl, rules}
use Rattle.cvss_base.specs.declared.v2.MetricType as kind_v2
use Rattle.cvss_base.specs.declared.v2.MetricType.TheVariants as metric_v2
use Rattle.cvss_base.specs.declared.v3.MetricType as kind_v3
use Rattle.cvss_base.specs.declared.v3.MetricType.TheVariants as metric_v3
use Rattle.cvss_base.specs.declared.v4.MetricType as kind_v4
use Rattle.cvss_metric.specs.v2.Table as table_v2
use Rattle.cvss_metric.specs.v3.Table as table_v3
use Rattle.cvss_metric.specs.v4.Table as table_v4
use Rattle.cvss_report.specs.Words.{AreWordsOf}
use Rattle.cvss_report.specs.WordsV2 as v2
use Rattle.cvss_report.specs.WordsV3 as v3
use Rattle.cvss_report.specs.WordsV4 as v4
use Rattle.cvss_report.proofs.laws.words_report_values.Goals as goal

-- the words are those of the metrics' values, checked by computing
words_v2 : (kind : kind_v2.MetricType) → AreWordsOf (map (λ row. row.0) (table_v2.rows_of kind)) (v2.words_of kind)
words_v2 metric_v2.A = record { each = refl; reported = refl }
words_v2 _ = record { each = refl; reported = refl }

words_v3 : (kind : kind_v3.MetricType) → AreWordsOf (map (λ row. row.0) (table_v3.rows_of kind)) (v3.words_of kind)
words_v3 metric_v3.A = record { each = refl; reported = refl }
words_v3 _ = record { each = refl; reported = refl }

words_v4 : (kind : kind_v4.MetricType) → AreWordsOf (table_v4.spellings_of kind) (v4.words_of kind)
words_v4 = search rules

pub returns : goal.returns
returns c = record { v2 = words_v2; v3 = words_v3; v4 = words_v4 }
