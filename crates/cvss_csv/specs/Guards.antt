-- Records whose cells are guarded: an apostrophe is before a text that a spreadsheet would take for a formula.
use Rattle.std.specs.Prelude.{ℕ, ◌==◌, Bool, true, List, [], ◌∷◌, ◌++◌, flat_map, if◌then◌else◌}
use Rattle.cvss_report.specs.Cells.{guard}
use Rattle.cvss_csv.specs.Fields.{comma, fields, quote}

-- a field, with the apostrophe before its text, after the quote if it is quoted
abbrev pub guarded_field : List ℕ → List ℕ
guarded_field [] = []
guarded_field (byte ∷ bytes) =
    if byte == quote then quote ∷ (guard true bytes ++ bytes) else guard true (byte ∷ bytes) ++ (byte ∷ bytes)

-- fields after the first
abbrev pub guarded_more : List (List ℕ) → List ℕ
guarded_more more = flat_map (λ field. comma ∷ guarded_field field) more

abbrev pub guarded_fields : List (List ℕ) → List ℕ
guarded_fields [] = []
guarded_fields (field ∷ more) = guarded_field field ++ guarded_more more

-- a record as it is, or guarded
abbrev pub shown_record : Bool → List ℕ → List ℕ
shown_record guarded body = if guarded then guarded_fields (fields body) else body
