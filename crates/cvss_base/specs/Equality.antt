-- What equality and a clone mean: that of values.
use Rattle.std.specs.Prelude.{◌≡◌, ◌↔◌, Bool, IsTrue}

-- two are equal exactly if they are one value
abbrev pub EqualsByValue : {X : Type 0} → (X → X → Bool) → Type 0
EqualsByValue {X} equals = (x y : X) → IsTrue (equals x y) ↔ (x ≡ y)

-- a clone is the value itself
abbrev pub ClonesByValue : {X : Type 0} → (X → X → Type 0) → Type 0
ClonesByValue {X} is_clone = (x clone : X) → is_clone x clone → clone ≡ x

-- no clone is refused: none takes memory
abbrev pub ClonesAlways : {X : Type 0} → (X → Type 0) → Type 0
ClonesAlways {X} is_infallible = (x : X) → is_infallible x
