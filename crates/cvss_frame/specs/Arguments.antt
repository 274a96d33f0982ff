-- The arguments that a program is started with. The first is the program's name.
use Rattle.std.specs.Prelude.{◌≡◌, ℕ, ◌+◌, ◌<◌, List, [], ◌∷◌, length, take, drop, map, Result, Ok, Err}
use Rattle.std.specs.Global.{Vec}
use Rattle.std.specs.declared.env.FillError.{FillError}
use Rattle.std.specs.declared.env.FillError.TheVariants.{NotPresent, TooLong}

-- the argument at this index
abbrev pub IsArgument : List (List ℕ) → ℕ → List ℕ → Type 0
IsArgument arguments index argument = drop index arguments ≡ argument ∷ drop (index + 1) arguments

-- there is no argument at this index or at a later one
abbrev pub HasNone : List (List ℕ) → ℕ → Type 0
HasNone arguments index = drop index arguments ≡ []

-- the argument at this index is copied to the start of the buffer, or is longer than that, or there is none
abbrev pub Fills : List (List ℕ) → ℕ → List ℕ → Result ℕ FillError → Type 0
Fills arguments index buffer (Ok count) = IsArgument arguments index (take count buffer)
Fills arguments index buffer (Err NotPresent) = HasNone arguments index
Fills arguments index buffer (Err TooLong) =
    (argument : List ℕ) × IsArgument arguments index argument × (length buffer < length argument)

-- the bytes of each argument
abbrev pub bytes_of : List (Vec ℕ) → List (List ℕ)
bytes_of arguments = map (λ argument. argument.items) arguments
