-- The lines of an input, which is cut after each byte 10.
use Rattle.std.specs.Prelude.{ℕ, Bool, List, [], ◌∷◌, ◌++◌, map, ◌==◌}
use Rattle.std.specs.List.{slice_split}
use Rattle.std.specs.Io.BufRead.{strip_last}

-- a byte that ends a line
abbrev pub is_line_end : ℕ → Bool
is_line_end byte = byte == 10

-- a line's text: its piece of the input less the one byte 13 at its end, if it has one
abbrev pub line_text : List ℕ → List ℕ
line_text piece = strip_last 13 piece

-- all but the last
abbrev pub all_but_last : List (List ℕ) → List (List ℕ)
all_but_last [] = []
all_but_last (piece ∷ []) = []
all_but_last (piece ∷ next ∷ more) = piece ∷ all_but_last (next ∷ more)

-- the last of a list of pieces
abbrev pub last_piece : List (List ℕ) → List ℕ
last_piece [] = []
last_piece (piece ∷ []) = piece
last_piece (piece ∷ next ∷ more) = last_piece (next ∷ more)

-- the lines that a byte 10 ends
abbrev pub ended_lines : List ℕ → List (List ℕ)
ended_lines input = map line_text (all_but_last (slice_split is_line_end input))

-- what follows the last byte 10
abbrev pub unended_piece : List ℕ → List ℕ
unended_piece input = last_piece (slice_split is_line_end input)

-- the line that the end of the input ends: a last piece that isn't empty
abbrev pub last_line : List ℕ → List (List ℕ)
last_line [] = []
last_line (byte ∷ bytes) = line_text (byte ∷ bytes) ∷ []

-- all lines, where no more bytes follow
abbrev pub lines : List ℕ → List (List ℕ)
lines input = ended_lines input ++ last_line (unended_piece input)
