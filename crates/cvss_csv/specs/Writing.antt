-- What is written of a verdict.
use Rattle.std.specs.Prelude.{◌≡◌, ℕ, Bool, List, ◌++◌, Option}
use Rattle.cvss_vector.specs.declared.vector.Cvss.{Cvss}
use Rattle.cvss_csv.specs.Cells.{AreCells, AreVectorCells, Verdict, counted_as}
use Rattle.cvss_csv.specs.declared.asked.Asked.{Asked}

-- the cells of a vector are written after what was
pub record WritesVector (asked : Asked) (cvss : Cvss) (old new : List ℕ) : Type 0 where
  pub cells : List ℕ
  pub are : AreVectorCells asked cvss cells
  pub written : new ≡ old ++ cells

-- the cells of such a verdict are, and how it is counted is returned
pub record Writes (asked : Asked) (IsIt : Verdict → Type 0) (old new : List ℕ) (counted : Option Bool) : Type 0 where
  pub verdict : Verdict
  pub is_it : IsIt verdict
  pub cells : List ℕ
  pub are : AreCells asked verdict cells
  pub written : new ≡ old ++ cells
  pub counts : counted ≡ counted_as verdict
