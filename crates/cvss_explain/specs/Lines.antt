-- The lines of explanations for people.
use Rattle.std.specs.Prelude.{◌≡◌, ℕ, ◌-◌, ◌==◌, if◌then◌else◌, List, [], ◌∷◌, ◌++◌, codes, length, map, flat_map, take}
use Rattle.std.specs.Char.{to_ascii_lowercase}
use Rattle.std.specs.Option.{option_map_or}
use Rattle.cvss_base.specs.SeverityText.{text_of as severity_text}
use Rattle.cvss_base.specs.declared.severity.Severity.{Severity}
use Rattle.cvss_base.specs.Text.{component}
use Rattle.cvss_base.specs.Version.{Version, held}
use Rattle.cvss_report.specs.Words as words
use Rattle.cvss_report.specs.Words.{word_in}
use Rattle.cvss_json.specs.Json.{tenths_text}

abbrev pub blanks : List ℕ
blanks = codes "                                        "

-- a text in a column of this width, which is at most 40
abbrev pub padded : ℕ → List ℕ → List ℕ
padded width text = text ++ take (width - length text) blanks

-- a word of FIRST's JSON schemas in lower case, and with blanks between its parts
abbrev pub spoken_byte : ℕ → ℕ
spoken_byte byte = if byte == 95 then 32 else to_ascii_lowercase byte

abbrev pub spoken : List ℕ → List ℕ
spoken word = map spoken_byte word

-- the line of a metric: its component, its weight or effect, its name, and its value in words
abbrev pub metric_line : List ℕ → List ℕ → List ℕ → List ℕ → List ℕ → List ℕ
metric_line name spelling figure description word =
    codes "  " ++ padded 9 (component name spelling)
    ++ padded 13 figure
    ++ description ++ codes ": " ++ spoken word ++ codes "\n"

-- the line of a metric, if the vector has it
abbrev pub metric_text : {V K : Type 0} → Version V K → (K → List ℕ) → (K → List words.ValueWord) → (K → List ℕ) → V → K → List ℕ
metric_text version description words figure v kind =
    option_map_or (λ spelling. metric_line (version.name kind) spelling (figure kind) (description kind) (word_in (words kind) spelling)) (held version v kind) []

-- a number on the way to a score, or a score: what it is called, and its text
abbrev pub TitledFigure : Type 0
TitledFigure = List ℕ × List ℕ

abbrev pub row_line : TitledFigure → List ℕ
row_line row = codes "  " ++ padded 36 row.0 ++ row.1 ++ codes "\n"

-- the lines of rows
abbrev pub rows_text : List TitledFigure → List ℕ
rows_text rows = flat_map row_line rows

-- a score of so many tenths, and its severity
abbrev pub rated_text : ℕ → Severity → List ℕ
rated_text tenths severity = tenths_text tenths ++ codes " " ++ severity_text severity

-- the text joins texts, one of which this holds for each item
abbrev pub Joins : {X : Type 0} → (X → List ℕ → Type 0) → List X → List ℕ → Type 0
Joins Holds [] text = text ≡ []
Joins Holds (item ∷ items) text =
    (first : List ℕ) × (rest : List ℕ) × Holds item first × Joins Holds items rest × (text ≡ first ++ rest)
