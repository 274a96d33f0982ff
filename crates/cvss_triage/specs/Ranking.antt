-- Lines of vectors of any version, ranked by a score that each has once metrics are set. Lines are counted from 1.
use Rattle.std.specs.Prelude.{◌≡◌, ◌⊎◌, ℕ, suc, ◌≤◌, Bool, List, [], ◌∷◌, IsPermutation, IsSorted, Option, None, Some, pos}
use Rattle.std.specs.declared.cmp.Ordering.{Ordering}
use Rattle.cvss_score.specs.Ranking.{rank_order}
use Rattle.cvss_vector.specs.Answers.{score_of_tenths}
use Rattle.cvss_vector.specs.Complete.{missing_by}
use Rattle.cvss_vector.specs.Evaluation.{IsScoreAs}
use Rattle.cvss_vector.specs.declared.scoring.Scoring.{Scoring}
use Rattle.cvss_vector.specs.declared.vector.Cvss.{Cvss}
use Rattle.cvss_triage.specs.Lines.{Line}
use Rattle.cvss_triage.specs.Overrides.{IsWithOwn}
use Rattle.cvss_triage.specs.Reading.{IsChosen, IsReason}
use Rattle.cvss_triage.specs.declared.overrides.Override.{Override}
use Rattle.cvss_triage.specs.declared.preferring.Preference.{Preference}
use Rattle.cvss_triage.specs.declared.ranking.BadLine.{BadLine}
use Rattle.cvss_triage.specs.declared.ranking.Ranking.{Ranking}
use Rattle.cvss_triage.specs.declared.row.Row.{Row}

-- the row has the bytes of the line of this number, its vector after the overrides, which lacks no base metric unless it
-- may, and the tenths of that vector's score
pub record IsRow (prefer : Option Preference) (overrides : List Override) (scoring : Scoring) (allow_incomplete : Bool) (number : ℕ) (line : Line) (row : Row) : Type 0 where
  pub number_is : row.number ≡ number
  pub line_is : row.line.now ≡ line.bytes
  pub cvss : Cvss
  pub is_vector : IsChosen prefer overrides scoring allow_incomplete line.searched cvss
  pub with_own : IsWithOwn overrides cvss row.vector
  pub complete : missing_by allow_incomplete row.vector ≡ None
  pub scored : IsScoreAs scoring row.vector (score_of_tenths row.tenths)
  pub bound : row.tenths ≤ 100

-- this says why the line of this number has no row
pub record IsBad (prefer : Option Preference) (overrides : List Override) (scoring : Scoring) (allow_incomplete : Bool) (number : ℕ) (line : Line) (bad : BadLine) : Type 0 where
  pub number_is : bad.number ≡ number
  pub reason : IsReason prefer overrides scoring allow_incomplete line.searched bad.reason

-- each of the lines, of which the first has this number, has its row or is bad, in the order of the lines; but not those that
-- are left out, of which only the number counts
abbrev pub AreRead : Option Preference → List Override → Scoring → Bool → ℕ → List (Option Line) → List Row → List BadLine → Type 0
AreRead prefer overrides scoring allow_incomplete number [] rows bad = (rows ≡ []) × (bad ≡ [])
AreRead prefer overrides scoring allow_incomplete number (None ∷ lines) rows bad = AreRead prefer overrides scoring allow_incomplete (suc number) lines rows bad
AreRead prefer overrides scoring allow_incomplete number (Some line ∷ lines) rows bad =
    ((row : Row) × (more : List Row) × (rows ≡ row ∷ more) × IsRow prefer overrides scoring allow_incomplete number line row
    × AreRead prefer overrides scoring allow_incomplete (suc number) lines more bad)
    ⊎ ((it : BadLine) × (more : List BadLine) × (bad ≡ it ∷ more) × IsBad prefer overrides scoring allow_incomplete number line it
    × AreRead prefer overrides scoring allow_incomplete (suc number) lines rows more)

-- the order of rows: a higher score first, and of one score by the bytes of the lines
abbrev pub row_order : Row → Row → Ordering
row_order = rank_order (λ row. pos row.tenths) (λ row. row.line.now)

-- each line has its row, or is listed as bad; rows are in their order
pub record IsRanking (prefer : Option Preference) (overrides : List Override) (scoring : Scoring) (allow_incomplete : Bool) (lines : List (Option Line)) (ranking : Ranking) : Type 0 where
  pub in_turn : List Row
  pub are_read : AreRead prefer overrides scoring allow_incomplete 1 lines in_turn ranking.bad.items
  pub same_rows : IsPermutation in_turn ranking.rows.items
  pub in_order : IsSorted row_order ranking.rows.items
