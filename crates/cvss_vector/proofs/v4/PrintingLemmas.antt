-- How long names and spellings are.
use Rattle.std.proofs.Common.{ℕ, zero, suc, ◌+◌, ◌≤◌, List, [], ◌∷◌, length, max, slice_get, unwrap_or, arith, rules}
use Rattle.cvss_base.specs.V4Types.{name_of}
use Rattle.cvss_base.specs.declared.v4.MetricType.{MetricType}
use Rattle.cvss_base.specs.declared.v4.MetricType.TheVariants.{AC}
use Rattle.cvss_metric.specs.v4.Table.{spelling_at, spellings_of}
use Rattle.cvss_vector.specs.v4.private.TableLaws.{width}

-- the length of the longest text
abbrev longest : List (List ℕ) → ℕ
longest [] = 0
longest (text ∷ texts) = max (length text) (longest texts)

within_longest : (texts : List (List ℕ)) (place : ℕ) → length (unwrap_or (slice_get texts place) []) ≤ longest texts
within_longest [] place = omega arith
within_longest (text ∷ texts) zero = omega arith
within_longest (text ∷ texts) (suc place) = omega (arith, within_longest texts place)

sizes : (kind : MetricType) → (length (name_of kind) + longest (spellings_of kind) + 2 ≤ width kind) × (width kind ≤ 8)
sizes AC = search rules
sizes _ = search rules

pub name_lengths : (kind : MetricType) → (1 ≤ length (name_of kind)) × (length (name_of kind) ≤ 3)
name_lengths AC = search rules
name_lengths _ = search rules

pub lengths : (kind : MetricType) (rank : ℕ) → (length (name_of kind) + length (spelling_at kind rank) ≤ 6) × (length (name_of kind) + length (spelling_at kind rank) + 2 ≤ width kind)
lengths kind rank = (
  omega (arith, within_longest (spellings_of kind) rank, (sizes kind).0, (sizes kind).1),
  omega (arith, within_longest (spellings_of kind) rank, (sizes kind).0),
)
