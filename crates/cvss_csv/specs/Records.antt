-- The records of a text: RFC 4180, section 2, rules 1, 2 and 6.
use Rattle.std.specs.Prelude.{◌≡◌, ◌<◌, ℕ, Bool, true, false, List, [], ◌∷◌, ◌++◌, length, map, if◌then◌else◌}
use Rattle.std.specs.Io.BufRead.{ends_with_byte, strip_last}
use Rattle.cvss_lines.specs.Lines.{all_but_last, last_piece}
use Rattle.cvss_csv.specs.Fields.{cut, line_feed, state_after}
use Rattle.cvss_csv.specs.declared.state.State.{State}
use Rattle.cvss_csv.specs.declared.state.State.TheVariants.{Start, Plain, Quoted, Closing}
use Rattle.cvss_csv.specs.declared.record.CutRecord.{CutRecord}

-- a record: its fields with the commas between them, and its line end
pub record Record : Type 0 where
  pub body : List ℕ
  pub line_end : List ℕ

-- the record that a line feed ends, before which a carriage return may be
abbrev pub ended_record : List ℕ → Record
ended_record piece = record {
  body = strip_last 13 piece;
  line_end = (if ends_with_byte 13 piece then 13 ∷ line_feed ∷ [] else line_feed ∷ []);
}

-- the record that the end of the text ends, if there are bytes of it
abbrev pub last_record : List ℕ → List Record
last_record [] = []
last_record (byte ∷ bytes) = record { body = byte ∷ bytes; line_end = [] } ∷ []

-- the pieces of a text between the line feeds that are outside quotes
abbrev pub pieces : List ℕ → List (List ℕ)
pieces text = cut line_feed Start text

-- the records that a line feed ends
abbrev pub ended_records : List ℕ → List Record
ended_records text = map ended_record (all_but_last (pieces text))

-- the records of a text
abbrev pub records : List ℕ → List Record
records text = ended_records text ++ last_record (last_piece (pieces text))

-- the bytes of a record
abbrev pub record_text : Record → List ℕ
record_text each = each.body ++ each.line_end

-- a quoted field is not closed in this state
abbrev pub is_quoted : State → Bool
is_quoted Start = false
is_quoted Plain = false
is_quoted Quoted = true
is_quoted Closing = false

-- the last field of a record is quoted and not closed
abbrev pub is_open : List ℕ → Bool
is_open body = is_quoted (state_after Start body)

-- a record that is cut off a text
abbrev pub as_record : CutRecord → Record
as_record cut = record { body = cut.body.now; line_end = cut.line_end.now }

-- this is the first record of a text, before these bytes
pub record IsFirstRecord (text : List ℕ) (first : CutRecord) (rest : List ℕ) : Type 0 where
  pub are : records text ≡ as_record first ∷ records rest
  pub unclosed : first.unclosed ≡ is_open first.body.now
  pub shorter : length rest < length text
