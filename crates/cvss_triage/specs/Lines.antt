-- The lines or records of the inputs, and what is ranked of each.
use Rattle.std.specs.Prelude.{ℕ, Bool, true, false, List, [], ◌∷◌, bytes_eq, flat_map, if◌then◌else◌, map, Option, None, Some, option_and_then}
use Rattle.cvss_csv.specs.Fields.{fields, value_at}
use Rattle.cvss_csv.specs.Records.{Record, is_open, records}
use Rattle.cvss_csv.specs.declared.asked.Cells.{Cells}
use Rattle.cvss_csv.specs.declared.asked.Cells.TheVariants.{Any, At}
use Rattle.cvss_lines.specs.Lines.{lines}
use Rattle.cvss_triage.specs.declared.form.Form.{Form}
use Rattle.cvss_triage.specs.declared.form.Form.TheVariants.{Lines, Records}
use Rattle.cvss_triage.specs.declared.input.Input.{Input}
use Rattle.cvss_triage.specs.declared.input.Input.TheVariants.{Unread, WithoutColumn, Read}
use Rattle.cvss_triage.specs.declared.input.InputText.{InputText}

-- a line or a record: its bytes, and the text in which its vector is looked for
pub record Line : Type 0 where
  pub bytes : List ℕ
  pub searched : List ℕ

-- that text is all of it
abbrev pub whole_line : List ℕ → Line
whole_line bytes = record { bytes = bytes; searched = bytes }

-- the text of a record in which its vector is looked for: its bytes, or the value of a cell, if it has that
abbrev pub searched_in : Cells → List ℕ → List ℕ
searched_in Any body = body
searched_in (At index) body = value_at index (fields body)

-- what is ranked of a record that is closed: nothing, if it is empty
abbrev pub closed_line : Cells → List ℕ → Option Line
closed_line cells [] = None
closed_line cells (byte ∷ bytes) = Some (record { bytes = byte ∷ bytes; searched = searched_in cells (byte ∷ bytes) })

-- what is ranked of a record: where it is not closed no bytes, in which no vector is found
abbrev pub ranked_of : Cells → Record → Option Line
ranked_of cells each = if is_open each.body then Some (whole_line []) else closed_line cells each.body

-- nothing is ranked of the first of some lines or records, if that is a header
abbrev pub after_header : Bool → List (Option Line) → List (Option Line)
after_header true [] = []
after_header true (header ∷ more) = None ∷ more
after_header false all = all

-- what is ranked of a line
abbrev pub ranked_line : List ℕ → Option Line
ranked_line bytes = Some (whole_line bytes)

-- what is ranked of each line or record of an input
abbrev pub ranked_in : Form → InputText → List (Option Line)
ranked_in Lines input = map ranked_line (lines input.text.now)
ranked_in Records input = map (ranked_of input.layout.cells) (records input.text.now)

-- the same with its header, which counts in the numbers
abbrev pub lines_in : Form → Input → List (Option Line)
lines_in form Unread = []
lines_in form WithoutColumn = []
lines_in form (Read input) = after_header input.layout.has_header (ranked_in form input)

-- those of all inputs, one after another
abbrev pub lines_of : Form → List Input → List (Option Line)
lines_of form inputs = flat_map (lines_in form) inputs

-- ---- the first input

-- the first of some, if there is one
abbrev pub first_of : {X : Type 0} → List X → Option X
first_of [] = None
first_of (first ∷ more) = Some first

-- the text of an input, if that can be ranked
abbrev pub text_of : Input → Option InputText
text_of Unread = None
text_of WithoutColumn = None
text_of (Read input) = Some input

abbrev pub first_text : List Input → Option InputText
first_text [] = None
first_text (input ∷ inputs) = text_of input

-- the lines of an input, or its records
abbrev pub bodies_in : Form → InputText → List (List ℕ)
bodies_in Lines input = lines input.text.now
bodies_in Records input = map (λ each. each.body) (records input.text.now)

-- the header of an input, if it has one
abbrev pub header_in : Form → InputText → Option (List ℕ)
header_in form input = if input.layout.has_header then first_of (bodies_in form input) else None

-- that of the first input
abbrev pub first_header : Form → List Input → Option (List ℕ)
first_header form inputs = option_and_then (header_in form) (first_text inputs)

-- a record, if there is one, ends with a carriage return and a line feed
abbrev pub ends_crlf : Option Record → Bool
ends_crlf None = false
ends_crlf (Some first) = bytes_eq first.line_end (13 ∷ 10 ∷ [])

-- the first record of the first input does
abbrev pub is_crlf : List Input → Bool
is_crlf inputs = ends_crlf (option_and_then (λ input. first_of (records input.text.now)) (first_text inputs))
