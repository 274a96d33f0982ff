-- The cells of a row, and how they are written.
use Rattle.std.specs.Prelude.{ℕ, Bool, true, false, ◌&&◌, ◌||◌, ◌-◌, ◌==◌, List, [], ◌∷◌, ◌++◌, codes, flat_map, length, take, if◌then◌else◌}
use Rattle.std.specs.Str.{is_utf8}
use Rattle.cvss_json.specs.Escapes.{quoted as json_quoted}
use Rattle.cvss_report.specs.declared.format.Format.{Format}
use Rattle.cvss_report.specs.declared.format.Format.TheVariants.{GuardedTsv, Json, Tsv}

-- what a cell holds: nothing, words that need no escape, any text, or the text of a number
pub data Cell : Type 0 where
  Nothing : Cell
  Words AnyText Number : List ℕ → Cell

-- a byte of a text in a column
abbrev pub escaped_byte : ℕ → List ℕ
escaped_byte byte =
    if byte == 9 then codes "\\t"
    else if byte == 10 then codes "\\n"
    else if byte == 13 then codes "\\r"
    else if byte == 92 then codes "\\\\"
    else byte ∷ []

-- a text in a column
abbrev pub escaped : List ℕ → List ℕ
escaped text = flat_map escaped_byte text

-- the text begins as what a spreadsheet takes for a formula: with an equals sign, a plus, a hyphen or an at sign
abbrev pub is_formula : List ℕ → Bool
is_formula [] = false
is_formula (byte ∷ bytes) = (byte == 61) || ((byte == 43) || ((byte == 45) || (byte == 64)))

-- the apostrophe before such a text, where cells are guarded
abbrev pub guard : Bool → List ℕ → List ℕ
guard guarded text = if is_formula text && guarded then codes "'" else []

-- what is around a string
abbrev pub quote : Format → List ℕ
quote Tsv = []
quote GuardedTsv = []
quote Json = codes "\""

-- words that need no escape
abbrev pub quoted : Format → List ℕ → List ℕ
quoted format text = quote format ++ (text ++ quote format)

-- no value
abbrev pub nothing : Format → List ℕ
nothing Tsv = []
nothing GuardedTsv = []
nothing Json = codes "null"

-- any text, which may be no UTF-8: JSON has no value for it then
abbrev pub given_text : Format → List ℕ → List ℕ
given_text Tsv text = escaped text
given_text GuardedTsv text = guard true text ++ escaped text
given_text Json text = if is_utf8 text then json_quoted text else nothing Json

abbrev pub cell_text : Format → Cell → List ℕ
cell_text format Nothing = nothing format
cell_text format (Words words) = quoted format words
cell_text format (AnyText text) = given_text format text
cell_text format (Number number) = number

-- the name of a file, as answers from several files have it as their prefix, before a colon
abbrev pub file_of : List ℕ → List ℕ
file_of prefix = take (length prefix - 1) prefix

-- the beginning of an object: the file, where answers have a prefix
abbrev pub object_start : List ℕ → List ℕ
object_start [] = codes "{"
object_start (byte ∷ bytes) = codes "{\"file\":" ++ (given_text Json (file_of (byte ∷ bytes)) ++ codes ",")

-- the file in a column, where that comes first
abbrev pub file_column : Bool → Format → List ℕ → List ℕ
file_column false format prefix = []
file_column true format prefix = given_text format (file_of prefix) ++ codes "\t"

-- what is before the given text: the file, where there are several; for a vector that is an operand it is empty
abbrev pub opening : Format → Bool → List ℕ → List ℕ
opening Tsv named prefix = file_column named Tsv prefix
opening GuardedTsv named prefix = file_column named GuardedTsv prefix
opening Json named prefix = object_start prefix ++ codes "\"given\":"

-- what is before each cell, whose column has this name
abbrev pub before_cell : Format → List ℕ → List ℕ
before_cell Tsv name = codes "\t"
before_cell GuardedTsv name = codes "\t"
before_cell Json name = codes ",\"" ++ (name ++ codes "\":")

-- what is after the last cell
abbrev pub closing : Format → List ℕ
closing Tsv = []
closing GuardedTsv = []
closing Json = codes "}"
