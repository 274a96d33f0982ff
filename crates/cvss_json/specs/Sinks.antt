-- What is written into a sink.
use Rattle.std.specs.Prelude.{ℕ, List, ◌++◌}

-- a text is added: where some text is held before, it is held with this one after it
pub record Adds {S : Type 0} (Holds : S → List ℕ → Type 0) (text : List ℕ) (old new : S) : Type 0 where
  pub held : (before : List ℕ) → Holds old before → Holds new (before ++ text)
