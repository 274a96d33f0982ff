-- What the code does with one override and with one line.
use Rattle.std.specs.Prelude.{◌≡◌, ◌≤◌, ℕ, ◌+◌, List, [], ◌∷◌, ◌++◌, All, length, map, Option, option_and_then, option_map}
use Rattle.std.specs.Cow.{cow_slice_items}
use Rattle.cvss_base.specs.Version.{Version}
use Rattle.cvss_vector.specs.Answers.{HasScore}
use Rattle.cvss_vector.specs.v2.Vector.{v2}
use Rattle.cvss_vector.specs.v3.Vector.{v3}
use Rattle.cvss_vector.specs.v4.Vector.{v4}
use Rattle.cvss_triage.specs.Lines.{Line}
use Rattle.cvss_triage.specs.Overrides.{AreOwn}
use Rattle.cvss_triage.specs.Ranking.{AreRead}
use Rattle.cvss_triage.specs.declared.lines.CutLine.{CutLine}
use Rattle.cvss_triage.specs.declared.overrides.Family.TheVariants.{V2, V3, V4}
use Rattle.cvss_triage.specs.declared.overrides.Override.{Override}
use Rattle.cvss_triage.specs.declared.own_metrics.OwnMetrics.{OwnMetrics}
use Rattle.cvss_triage.specs.declared.ranking.BadLine.{BadLine}
use Rattle.cvss_triage.specs.declared.ranking.Ranking.{Ranking}
use Rattle.cvss_triage.specs.declared.ranking.Rules.{Rules}
use Rattle.cvss_triage.specs.declared.row.Row.{Row}

-- the value that own metrics have for a metric, where there are some
abbrev pub own_value : {V K : Type 0} → (version : Version V K) → Option V → (kind : K) → Option (version.Value kind)
own_value version own kind = option_and_then (λ v. version.value_of v kind) own

-- the own metrics of each family are those that the overrides set
pub record AreOwnMetrics (overrides : List Override) (own : OwnMetrics) : Type 0 where
  pub in_v2 : AreOwn v2 V2 overrides (own_value v2 own.v2)
  pub in_v3 : AreOwn v3 V3 overrides (own_value v3 own.v3)
  pub in_v4 : AreOwn v4 V4 overrides (own_value v4 own.v4)

-- the row's score is one that can be written, of a vector that has one
pub record IsToTen (row : Row) : Type 0 where
  pub to_ten : row.tenths ≤ 100
  pub scored : HasScore row.vector

-- lines are read by rules in turn, and the scores of their rows can be written
pub record IsReadBy (rules : Rules) (lines : List (Option Line)) (rows : List Row) (bad : List BadLine) : Type 0 where
  pub read : (overrides : List Override) → AreOwnMetrics overrides rules.own → AreRead rules.prefer overrides rules.scoring rules.allow_incomplete 1 lines rows bad
  pub to_ten : All IsToTen rows

-- the line of this number is read after those before it
abbrev pub Adds : Rules → ℕ → Option Line → Ranking → Ranking → Type 0
Adds rules number line old new = (lines : List (Option Line)) → length lines + 1 ≡ number → IsReadBy rules lines old.rows.items old.bad.items → IsReadBy rules (lines ++ line ∷ []) new.rows.items new.bad.items

-- such a text is written after what was
pub record WritesRow (IsText : List ℕ → Type 0) (old new : List ℕ) : Type 0 where
  pub text : List ℕ
  pub is_text : IsText text
  pub written : new ≡ old ++ text

-- a line or a record, as the code has it
abbrev pub as_line : CutLine → Line
as_line cut = record { bytes = cut.bytes.now; searched = cow_slice_items cut.searched }

abbrev pub rows_of : List (Option CutLine) → List (Option Line)
rows_of rows = map (option_map as_line) rows
