-- Which column --column says.
use Rattle.std.specs.Prelude.{◌≡◌, ◌+◌, ◌-◌, ◌*◌, ◌&&◌, ℕ, zero, suc, List, [], ◌∷◌, Option, None, Some, if◌then◌else◌}
use Rattle.std.specs.Char.{is_ascii_digit}
use Rattle.std.specs.Global.{Vec}
use denote.Ref.{Bor}
use Rattle.cvss_csv.specs.declared.asked.Column as column
use Rattle.cvss_csv.specs.declared.asked.Column.TheVariants.{AnyColumn, Index, Named}
use Rattle.cvss_subcommands.specs.Values.{values_of}
use Rattle.cvss_subcommands.specs.declared.flags.Flag.{Flag}
use Rattle.cvss_subcommands.specs.declared.flags.Flag.TheVariants.{Column}
use Rattle.cvss_subcommands.specs.declared.subcommand.Subcommand.{Subcommand}

-- the value of the last --column, or else the one that was found before
abbrev pub column_after : Option (List ℕ) → List (Flag × List ℕ) → Option (List ℕ)
column_after found [] = found
column_after found ((Column, value) ∷ more) = column_after (Some value) more
column_after found ((_, value) ∷ more) = column_after found more

abbrev pub column_text : Subcommand → List (Vec ℕ) → Option (List ℕ)
column_text subcommand words = column_after None (values_of subcommand words)

-- the number of three digits
abbrev pub by_three : ℕ → ℕ → ℕ → Option ℕ
by_three a b c =
    if is_ascii_digit a && (is_ascii_digit b && is_ascii_digit c) then Some (100 * (a - 48) + 10 * (b - 48) + (c - 48)) else None

-- the number that a text of at most three digits is
abbrev pub number_of : List ℕ → Option ℕ
number_of (c ∷ []) = by_three 48 48 c
number_of (b ∷ c ∷ []) = by_three 48 b c
number_of (a ∷ b ∷ c ∷ []) = by_three a b c
number_of _ = None

-- a number from 1 on as an index
abbrev pub index_by : Option ℕ → Option ℕ
index_by None = None
index_by (Some zero) = None
index_by (Some (suc index)) = Some index

-- a column is one by its number, from 1, or by its name
abbrev pub IsColumnBy : Option ℕ → List ℕ → column.Column → Type 0
IsColumnBy (Some index) text given = (number : Bor (List ℕ)) × (given ≡ Index index number) × (number.now ≡ text)
IsColumnBy None text given = (name : Bor (List ℕ)) × (given ≡ Named name) × (name.now ≡ text)

-- any, where none is given
abbrev pub IsColumn : Option (List ℕ) → column.Column → Type 0
IsColumn None given = given ≡ AnyColumn
IsColumn (Some text) given = IsColumnBy (index_by (number_of text)) text given
