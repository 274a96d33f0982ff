-- What the first record of a text says of its records: which cells are searched, and whether it is a header.
use Rattle.std.specs.Prelude.{◌≡◌, ℕ, suc, Bool, true, false, List, [], ◌∷◌, bytes_eq, codes, Option, None, Some, option_map, if◌then◌else◌}
use Rattle.cvss_csv.specs.Answers.{AreTextsOf, searched}
use Rattle.cvss_csv.specs.Fields.{fields, value}
use Rattle.cvss_csv.specs.Records.{Record}
use Rattle.cvss_csv.specs.declared.asked.Cells.{Cells}
use Rattle.cvss_csv.specs.declared.asked.Cells.TheVariants.{Any, At}
use Rattle.cvss_csv.specs.declared.asked.Column.{Column}
use Rattle.cvss_csv.specs.declared.asked.Column.TheVariants.{AnyColumn, Index, Named}
use Rattle.cvss_csv.specs.declared.layout.Layout.{Layout}
use Rattle.cvss_frame.specs.Reports.{Reported, ReportsAbout}

-- the index of the first field that has this value
abbrev pub index_of : List ℕ → List (List ℕ) → Option ℕ
index_of name [] = None
index_of name (field ∷ more) = if bytes_eq (value field) name then Some 0 else option_map suc (index_of name more)

-- the cells, where the first record has a field among them
abbrev pub cells_if : Cells → List (List ℕ) → Option Cells
cells_if cells [] = None
cells_if cells (field ∷ more) = Some cells

-- the cells that are searched, by the column and the fields of the first record; none, where no field has the column's name
-- or number
abbrev pub cells_by : Column → List (List ℕ) → Option Cells
cells_by AnyColumn all = Some Any
cells_by (Index index number) all = cells_if (At index) (searched (At index) all)
cells_by (Named name) all = option_map At (index_of name.now all)

-- no text is found
abbrev pub is_none_found : List (List ℕ) → Bool
is_none_found [] = true
is_none_found (text ∷ texts) = false

-- whether a record has no vector in any field
pub record LacksVector (all : List (List ℕ)) (lacks : Bool) : Type 0 where
  pub texts : List (List ℕ)
  pub are_texts : AreTextsOf all texts
  pub is : lacks ≡ is_none_found texts

-- whether the first record is a header: if the column has a name, or if no vector is found in the record
abbrev pub IsHeader : Column → List (List ℕ) → Bool → Type 0
IsHeader AnyColumn all is_header = LacksVector all is_header
IsHeader (Index index number) all is_header = LacksVector all is_header
IsHeader (Named name) all is_header = is_header ≡ true

-- what the first record says: which cells are searched, and whether it is a header
pub record SaysFirst (column : Column) (body : List ℕ) (cells : Cells) (is_header : Bool) : Type 0 where
  pub searched : cells_by column (fields body) ≡ Some cells
  pub header : IsHeader column (fields body) is_header

-- the layout that it says, if it has the column
abbrev pub IsLayout : Column → List ℕ → Option Layout → Type 0
IsLayout column body None = cells_by column (fields body) ≡ None
IsLayout column body (Some layout) = SaysFirst column body layout.cells layout.has_header

-- the first record has no cell with the name or the number of the column
abbrev pub LacksColumn : Column → List Record → Type 0
LacksColumn column [] = ⊥
LacksColumn column (first ∷ more) = cells_by column (fields first.body) ≡ None

-- what is reported of such a text
abbrev pub ReportsMissing : Column → Reported → Reported → Type 0
ReportsMissing AnyColumn old new = new ≡ old
ReportsMissing (Index index number) old new = ReportsAbout (codes "cvss: no column has the number ") number.now (codes "\n") old new
ReportsMissing (Named name) old new = ReportsAbout (codes "cvss: no column is named '") name.now (codes "'\n") old new
