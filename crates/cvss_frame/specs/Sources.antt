-- What an operand of a command names, and what an answer begins with where there are several files.
use Rattle.std.specs.Prelude.{ℕ, ◌==◌, Bool, true, false, List, [], ◌∷◌, codes, if◌then◌else◌, bytes_eq}
use Rattle.cvss_frame.specs.declared.sources.Source.{Source}
use Rattle.cvss_frame.specs.declared.sources.Source.TheVariants.{Input, Vector, File}

-- the operand has a colon before its first slash
abbrev pub is_vector : List ℕ → Bool
is_vector [] = false
is_vector (byte ∷ bytes) = if byte == 58 then true else if byte == 47 then false else is_vector bytes

-- what an operand names
abbrev pub source_of : List ℕ → Source
source_of operand = if bytes_eq operand (codes "-") then Input else (if is_vector operand then Vector else File)

-- the operand has a name that answers may begin with, which is not the text of a vector
abbrev pub has_name : Source → Bool
has_name Input = true
has_name Vector = false
has_name File = true
