-- Which spellings have an effective value of their own: CVSS v4.0 specification, sections 2 to 4.
use Rattle.std.specs.Prelude.{ℕ, List, Bool, IsTrue, ◌||◌, codes, bytes_eq}
use Rattle.std.specs.List.{list_any, list_all}
use Rattle.cvss_base.specs.declared.v4.MetricType.{MetricType}
use Rattle.cvss_metric.specs.v4.Table.{spellings_of}
use Rattle.cvss_score.specs.v4.Effective.{Letters}

-- the spelling is X, or one of the letters
abbrev pub is_known : {E : Type 0} → Letters E → List ℕ → Bool
is_known letters spelling = bytes_eq spelling (codes "X") || list_any (λ row. bytes_eq row.0 spelling) letters.rows

-- so is each spelling of these metrics
abbrev pub AreLettersOf : {E : Type 0} → Letters E → List MetricType → Type 0
AreLettersOf letters kinds = IsTrue (list_all (λ kind. list_all (is_known letters) (spellings_of kind)) kinds)
