-- The rows that answer a record where each of its vectors has one: the record, with the cells of the vector after it.
use Rattle.std.specs.Prelude.{◌≡◌, ◌⊎◌, ℕ, Bool, List, [], ◌∷◌, ◌++◌, flat_map, Some, ⊤}
use Rattle.cvss_csv.specs.Cells.{AreCells, AreEqual, IsReadAs, Verdict, counted_as}
use Rattle.cvss_csv.specs.Fields.{line_feed}
use Rattle.cvss_csv.specs.Guards.{shown_record}
use Rattle.cvss_csv.specs.declared.asked.Asked.{Asked}

-- ---- the vectors that have rows

-- a text counts as one vector with one of these
abbrev pub HasEqual : List (List ℕ) → List ℕ → Type 0
HasEqual [] text = ⊥
HasEqual (one ∷ more) text = AreEqual one text ⊎ HasEqual more text

-- those of some texts that have rows, after others that have: each that counts as one vector with none before it
abbrev pub AreDifferent : List (List ℕ) → List (List ℕ) → List (List ℕ) → Type 0
AreDifferent before [] own = own ≡ []
AreDifferent before (text ∷ texts) own =
    (HasEqual before text × AreDifferent before texts own)
    ⊎ ((more : List (List ℕ)) × ¬ (HasEqual before text) × (own ≡ text ∷ more) × AreDifferent (before ++ text ∷ []) texts more)

-- ---- their rows

-- the bytes of a row, and whether its vector is accepted
pub record WrittenRow : Type 0 where
  pub bytes : List ℕ
  pub accepted : Bool

-- the record, the cells of the vector after it, and the line end
pub record IsRow (asked : Asked) (body line_end text : List ℕ) (row : WrittenRow) : Type 0 where
  pub verdict : Verdict
  pub is : IsReadAs asked.allow_incomplete text verdict
  pub cells : List ℕ
  pub are : AreCells asked verdict cells
  pub bytes : row.bytes ≡ shown_record asked.guarded body ++ (cells ++ line_end)
  pub counts : counted_as verdict ≡ Some row.accepted

-- a row for each text, in their order
abbrev pub AreRows : Asked → List ℕ → List ℕ → List (List ℕ) → List WrittenRow → Type 0
AreRows asked body line_end [] [] = ⊤
AreRows asked body line_end [] (row ∷ rows) = ⊥
AreRows asked body line_end (text ∷ texts) [] = ⊥
AreRows asked body line_end (text ∷ texts) (row ∷ rows) = IsRow asked body line_end text row × AreRows asked body line_end texts rows

-- what is between two rows: a line feed, where the record has no line end
abbrev pub between : List ℕ → List ℕ
between [] = line_feed ∷ []
between (byte ∷ bytes) = []

-- rows after another one
abbrev pub later_rows : List ℕ → List WrittenRow → List ℕ
later_rows line_end rows = flat_map (λ row. between line_end ++ row.bytes) rows

-- the rows of a record with this line end
abbrev pub rows_text : List ℕ → List WrittenRow → List ℕ
rows_text line_end [] = []
rows_text line_end (row ∷ rows) = row.bytes ++ later_rows line_end rows
