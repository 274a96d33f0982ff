-- Fractions in ten-millionths.
use Rattle.std.specs.Prelude.{ℕ, ◌+◌, ◌*◌, ◌/◌}

-- the ten-millionths that are nearest to n over d, of two the larger
abbrev pub nearest_to : ℕ → ℕ → ℕ
nearest_to n d = (n * 20_000_000 + d) / (2 * d)
