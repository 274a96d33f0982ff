-- Parts of the arguments of a command.
use Rattle.std.specs.Prelude.{ℕ, ◌-◌, ◌==◌, Bool, false, if◌then◌else◌, List, [], ◌∷◌, drop, flat_map, length, take}
use Rattle.std.specs.Global.{Vec}

-- the last so many of the arguments
abbrev pub operands_of : ℕ → List (Vec ℕ) → List (Vec ℕ)
operands_of count arguments = drop (length arguments - count) arguments

-- so many arguments after the subcommand
abbrev pub words_of : ℕ → List (Vec ℕ) → List (Vec ℕ)
words_of count arguments = take count (drop 1 arguments)

-- the word begins with a hyphen, and is not one alone
abbrev pub is_option : List ℕ → Bool
is_option [] = false
is_option (byte ∷ []) = false
is_option (byte ∷ next ∷ bytes) = byte == 45

-- a metric after a slash, and nothing of an option
abbrev pub metric_part : List ℕ → List ℕ
metric_part word = if is_option word then [] else 47 ∷ word

-- the metrics among words of metrics and options, each after a slash
abbrev pub metrics_in : List (Vec ℕ) → List ℕ
metrics_in words = flat_map (λ word. metric_part word.items) words
