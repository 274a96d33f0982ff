-- Exact numbers, over which the equations of the CVSS specifications are stated.
use Rattle.std.specs.Prelude.{◌≡◌, ℕ, ◌*◌, ◌^◌, ℤ, pos, ◌+ℤ◌, ◌-ℤ◌, ◌*ℤ◌, ◌≤ℤ◌, ◌<ℤ◌, neg_ℤ}
use Rattle.std.specs.Int.{int_min}

infixl 60 ◌⊕◌ ◌⊖◌
infixl 70 ◌⊗◌
infix 80 ◌over◌
infix 50 ◌≈◌ ◌⊑◌ ◌⊏◌
-- a whole number over a positive whole number, both of any size
pub record Exact : Type 0 where
  pub top : ℤ
  pub bottom : ℕ

-- a fraction of either sign
abbrev pub ratio : ℤ → ℕ → Exact
ratio top bottom = record { top = top; bottom = bottom }

-- a decimal of a specification, as 1041 over 100 for 10.41
abbrev pub ◌over◌ : ℕ → ℕ → Exact
n over m = ratio (pos n) m

-- a whole number
abbrev pub whole : ℕ → Exact
whole n = n over 1

-- a weight of so many thousandths
abbrev pub thousandths : ℕ → Exact
thousandths n = n over 1000

-- a score of so many tenths
abbrev pub tenths : ℤ → Exact
tenths r = ratio r 10

-- what a count of 10^-24 stands for
abbrev pub of_count : ℤ → Exact
of_count n = ratio n (10 ^ 24)

-- the sum
abbrev pub ◌⊕◌ : Exact → Exact → Exact
x ⊕ y = ratio (x.top *ℤ pos y.bottom +ℤ y.top *ℤ pos x.bottom) (x.bottom * y.bottom)

-- the difference
abbrev pub ◌⊖◌ : Exact → Exact → Exact
x ⊖ y = ratio (x.top *ℤ pos y.bottom -ℤ y.top *ℤ pos x.bottom) (x.bottom * y.bottom)

-- the product
abbrev pub ◌⊗◌ : Exact → Exact → Exact
x ⊗ y = ratio (x.top *ℤ y.top) (x.bottom * y.bottom)

-- the smaller of two
abbrev pub smaller : Exact → Exact → Exact
smaller x y = ratio (int_min (x.top *ℤ pos y.bottom) (y.top *ℤ pos x.bottom)) (x.bottom * y.bottom)

-- x equals y
pub record ◌≈◌ (x y : Exact) : Type 0 where
  pub equal : x.top *ℤ pos y.bottom ≡ y.top *ℤ pos x.bottom

-- x is at most y
pub record ◌⊑◌ (x y : Exact) : Type 0 where
  pub at_most : (x.top *ℤ pos y.bottom) ≤ℤ (y.top *ℤ pos x.bottom)

-- x is below y
pub record ◌⊏◌ (x y : Exact) : Type 0 where
  pub below : (x.top *ℤ pos y.bottom) <ℤ (y.top *ℤ pos x.bottom)

-- a count from -LIMIT to LIMIT, for calls that round
pub record IsWithinLimit (count : ℤ) : Type 0 where
  pub from_lowest : neg_ℤ (pos (10 ^ 30)) ≤ℤ count
  pub to_highest : count ≤ℤ pos (10 ^ 30)
