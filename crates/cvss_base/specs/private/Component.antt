-- How components are written and compared.
use Rattle.std.specs.Prelude.{ℕ, Bool, nat_lt, ◌||◌, List, count_by, ◌==◌}
use Rattle.cvss_base.specs.Text.{slash, colon}

-- a byte that no name and no spelling has: it divides, or is not ASCII
abbrev pub is_delimiter : ℕ → Bool
is_delimiter byte = byte == slash || byte == colon || nat_lt 127 byte

-- how many bytes of the text are such
abbrev pub delimiter_bytes : List ℕ → ℕ
delimiter_bytes text = count_by is_delimiter text
