-- The order of rows by their scores.
use Rattle.std.specs.Prelude.{ℕ, ℤ, List}
use Rattle.std.specs.Cmp.Lexicographic.{slice_cmp}
use Rattle.std.specs.Ordering.{ordering_then, int_cmp, nat_cmp}
use Rattle.std.specs.declared.cmp.Ordering.{Ordering}

-- a higher score first, and of one score by the bytes of the texts
abbrev pub rank_order : {R : Type 0} → (R → ℤ) → (R → List ℕ) → R → R → Ordering
rank_order score text row other =
    ordering_then (int_cmp (score other) (score row)) (slice_cmp nat_cmp (text row) (text other))
