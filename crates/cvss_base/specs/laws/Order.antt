-- Values in the order of a list.
use Rattle.std.specs.Prelude.{◌≡◌, ℕ, List}
use Rattle.std.specs.List.{position_or_len}
use Rattle.std.specs.Ordering.{nat_cmp}
use Rattle.std.specs.Str.{bytes_eq}
use Rattle.std.specs.declared.cmp.Ordering.{Ordering}

-- the place of an item in a list, which its text says
abbrev pub place_in : {A : Type 0} → (A → List ℕ) → List A → A → ℕ
place_in text items item = position_or_len (λ other. bytes_eq (text other) (text item)) items

-- two items compare as their places in the list do
abbrev pub ComparesAs : {A : Type 0} → (A → List ℕ) → List A → (A → A → Ordering) → Type 0
ComparesAs {A} text items compared =
    (x y : A) → compared x y ≡ nat_cmp (place_in text items x) (place_in text items y)
