-- The effective values of a vector: CVSS v4.0 specification, sections 3.1 (E), 4.1 (CR, IR and AR), 4.2
-- (modified metrics) and 8.2.
use Rattle.std.specs.Prelude.{ℕ, List, codes, bytes_eq, if◌then◌else◌, Option}
use Rattle.std.specs.Option.{option_map_or}
use Rattle.cvss_base.specs.declared.v4.MetricType.{MetricType}
use Rattle.cvss_base.specs.declared.v4.MetricType.TheVariants.{AC, AT, AV, PR, SA, SC, SI, UI, VA, VC, VI, E, AR, CR, IR, MAC, MAT, MAV, MPR, MSA, MSC, MSI, MUI, MVA, MVC, MVI}
use Rattle.cvss_score.specs.v4.Effective.{meaning, attack_vectors, privileges, user_interactions, attack_complexities, all_attack_requirements, vulnerable_impacts, subsequent_impacts, safety_impacts, requirements, exploit_maturities}
use Rattle.cvss_metric.specs.v4.Table.{spelling_at}
use Rattle.cvss_vector.specs.v4.Table.{Value, rank_of, value_at}
use Rattle.cvss_score.specs.declared.v4.scoring.effective.Effective.{Effective}
use Rattle.cvss_vector.specs.declared.v4.vector.Vector.{Vector}

-- the letter of a value by its place among those of a metric, where an absent one counts as Not Defined
abbrev pub letter_by : {A : Type 0} → MetricType → (A → ℕ) → Option A → List ℕ
letter_by kind rank value = option_map_or (λ each. spelling_at kind (rank each)) value (codes "X")

abbrev pub letter_of : (kind : MetricType) → Option (Value kind) → List ℕ
letter_of kind value = letter_by kind (rank_of kind) value

-- the letter that a vector has for a metric
abbrev pub letter_at : Vector → MetricType → List ℕ
letter_at v kind = letter_of kind (value_at v kind)

-- a modified metric's letter replaces its base metric's where it is defined
abbrev pub replaced : List ℕ → List ℕ → List ℕ
replaced modified base = if bytes_eq modified (codes "X") then base else modified

-- the letter of a modified metric and its base metric together
abbrev pub merged : Vector → MetricType → MetricType → List ℕ
merged v modified base = replaced (letter_at v modified) (letter_at v base)

-- the effective values of a vector
abbrev pub effective_of : Vector → Effective
effective_of v = record {
  av = meaning attack_vectors (merged v MAV AV);
  pr = meaning privileges (merged v MPR PR);
  ui = meaning user_interactions (merged v MUI UI);
  ac = meaning attack_complexities (merged v MAC AC);
  at = meaning all_attack_requirements (merged v MAT AT);
  vc = meaning vulnerable_impacts (merged v MVC VC);
  vi = meaning vulnerable_impacts (merged v MVI VI);
  va = meaning vulnerable_impacts (merged v MVA VA);
  sc = meaning subsequent_impacts (merged v MSC SC);
  si = meaning safety_impacts (merged v MSI SI);
  sa = meaning safety_impacts (merged v MSA SA);
  cr = meaning requirements (letter_at v CR);
  ir = meaning requirements (letter_at v IR);
  ar = meaning requirements (letter_at v AR);
  e = meaning exploit_maturities (letter_at v E);
}
