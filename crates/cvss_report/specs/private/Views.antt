-- Cells and fields of the code, as their definitions have them.
use Rattle.std.specs.Prelude.{◌≡◌, ℕ, List, [], ◌∷◌, ◌++◌}
use Rattle.std.specs.Borrow.{Bor}
use Rattle.cvss_vector.specs.declared.vector.Cvss.{Cvss}
use Rattle.cvss_report.specs.Cells as spec
use Rattle.cvss_report.specs.Rows.{AreFields, Fields, cells_text}
use Rattle.cvss_report.specs.declared.format.Format.{Format}
use Rattle.cvss_report.specs.declared.cells.Cell.{Cell}
use Rattle.cvss_report.specs.declared.cells.Cell.TheVariants.{Nothing, Words, Given, Number}

abbrev pub cell_view : Cell → spec.Cell
cell_view Nothing = spec.Nothing
cell_view (Words words) = spec.Words words.now
cell_view (Given text) = spec.AnyText text.now
cell_view (Number number) = spec.Number number.now

abbrev pub field_view : Bor (List ℕ) × Cell → List ℕ × spec.Cell
field_view field = (field.0.now, cell_view field.1)

-- the cells of a vector are written, and a byte 10
pub record WritesVectorCells (format : Format) (vector : Cvss) (old new : List ℕ) : Type 0 where
  pub fields : Fields
  pub are : AreFields vector fields
  pub written : new ≡ old ++ (cells_text format fields ++ 10 ∷ [])
