-- Order and equality of exact numbers, and what sums, differences and products do to them.
use Rattle.std.proofs.Common.{◌≡◌, ℕ, zero, suc, ◌+◌, ◌-◌, ◌*◌, ◌<◌, ◌≤◌, ℤ, pos, negsuc, ◌+ℤ◌, ◌-ℤ◌, ◌*ℤ◌, ◌≤ℤ◌, neg_ℤ, ap, arith, refl, sym, ◌∙◌, mul-le-mul, mul-le-mul_right, le_of_mul-le-mul_right}
use Rattle.std.proofs.Math.IntN.{*ℤ_comm}
use Rattle.std.proofs.lemmas.Int.{ints, by_lt_z}
use borrow.Author.Differences.{up, down, sum_is_lem, neg_is, product_is}
use Rattle.cvss_base.specs.Exact.{Exact, ratio, whole, ◌⊕◌, ◌⊖◌, ◌⊗◌, ◌over◌, ◌≈◌, ◌⊑◌, ◌⊏◌}

pub equal_refl : (x : Exact) → x ≈ x
equal_refl x = record { equal = refl }

pub equal_sym : {x y : Exact} → x ≈ y → y ≈ x
equal_sym same = record { equal = sym same.equal }

pub equal_at_most : (x y : Exact) → x ≈ y → x ⊑ y
equal_at_most x y h = record { at_most = omega (arith, ints) }

pub equal_from_at_most : (x y : Exact) → x ⊑ y → y ⊑ x → x ≈ y
equal_from_at_most x y h k = record { equal = omega (arith, ints) }

-- either order of two exact numbers decides a claim
pub by_below : {P : Type 0} (x y : Exact) → (x ⊏ y → P) → (y ⊑ x → P) → P
by_below x y is_below is_not =
    by_lt_z (x.top *ℤ pos y.bottom) (y.top *ℤ pos x.bottom)
    (λ h. is_below (record { below = h })) (λ h. is_not (record { at_most = h }))

pub at_most_trans : (x y z : Exact) → 0 < y.bottom → x ⊑ y → y ⊑ z → x ⊑ z
at_most_trans x y z positive left right =
    let first : up x.top * y.bottom + down y.top * x.bottom ≤ up y.top * x.bottom + down x.top * y.bottom = omega (arith, ints) in
    let second : up y.top * z.bottom + down z.top * y.bottom ≤ up z.top * y.bottom + down y.top * z.bottom = omega (arith, ints) in
    let both : (up x.top * z.bottom + down z.top * x.bottom) * y.bottom ≤ (up z.top * x.bottom + down x.top * z.bottom) * y.bottom =
    omega (arith, mul-le-mul_right z.bottom first, mul-le-mul_right x.bottom second) in
    record { at_most = omega (arith, ints, le_of_mul-le-mul_right both positive) }

module _ (x y z : Exact) where
  pub at_most_below : 0 < x.bottom → x ⊑ y → y ⊏ z → x ⊏ z
  at_most_below positive left right =
      by_below x z (λ below. below) (λ back. let no = at_most_trans z x y positive back left in absurd (omega (arith, ints)))

  pub below_at_most : 0 < z.bottom → x ⊏ y → y ⊑ z → x ⊏ z
  below_at_most positive left right =
      by_below x z (λ below. below) (λ back. let no = at_most_trans y z x positive right back in absurd (omega (arith, ints)))

pub equal_trans : {x y z : Exact} → 0 < y.bottom → x ≈ y → y ≈ z → x ≈ z
equal_trans {x} {y} {z} positive left right =
    equal_from_at_most x z
    (at_most_trans x y z positive (equal_at_most x y left) (equal_at_most y z right))
    (at_most_trans z y x positive (equal_at_most z y (equal_sym right)) (equal_at_most y x (equal_sym left)))

-- what holds of two tops of one sign holds of the tops of equal numbers
pub by_sign : (P : ℤ → ℤ → Type 0) → P (pos 0) (pos 0) → ((m n : ℕ) → P (pos (suc m)) (pos (suc n)))
    → ((m n : ℕ) → P (negsuc m) (negsuc n)) → (m n : ℤ) (p q : ℕ) → 0 < p → 0 < q → m *ℤ pos q ≡ n *ℤ pos p → P m n
by_sign P none above below (pos zero) (pos zero) p q some_p some_q same = none
by_sign P none above below (pos (suc m)) (pos (suc n)) p q some_p some_q same = above m n
by_sign P none above below (negsuc m) (negsuc n) p q some_p some_q same = below m n
by_sign P none above below _ _ p q some_p some_q same = absurd (omega (arith, ints))

-- a factor goes into a sum
pub times_sum : (a b : ℤ) (n : ℕ) → (a +ℤ b) *ℤ pos n ≡ a *ℤ pos n +ℤ b *ℤ pos n
times_sum a b n = omega (arith, ints, ap (λ m. m * n) (sum_is_lem a b))

-- and an opposite out of a product
pub neg_times : (a : ℤ) (n : ℕ) → neg_ℤ a *ℤ pos n ≡ neg_ℤ (a *ℤ pos n)
neg_times a n =
    let opposite = neg_is a in
    omega (arith, ints, ap (λ m. m * n) opposite.0, ap (λ m. m * n) opposite.1)

-- and into a difference
pub times_difference : (a b : ℤ) (n : ℕ) → (a -ℤ b) *ℤ pos n ≡ a *ℤ pos n -ℤ b *ℤ pos n
times_difference a b n = times_sum a (neg_ℤ b) n ∙ ap (λ z. a *ℤ pos n +ℤ z) (neg_times b n)

-- products group either way
pub times_times : (a b : ℤ) (n : ℕ) → (a *ℤ b) *ℤ pos n ≡ a *ℤ (b *ℤ pos n)
times_times a b n =
    let inner = product_is a b in
    let outer = product_is b (pos n) in
    omega (
      arith,
      ints,
      ap (λ m. m * n) inner.0,
      ap (λ m. m * n) inner.1,
      ap (λ m. up a * m) outer.0,
      ap (λ m. up a * m) outer.1,
      ap (λ m. down a * m) outer.0,
      ap (λ m. down a * m) outer.1,
    )

-- with something added a number is not smaller
pub above_itself : (x : Exact) (m n : ℕ) → x ⊑ x ⊕ m over n
above_itself x m n =
    let sum = times_sum (x.top *ℤ pos n) (pos m *ℤ pos x.bottom) x.bottom in
    record { at_most = omega (arith, ints, sum, times_times x.top (pos n) x.bottom) }

-- the product of three weights taken from 1 each, and that it is at most 1
pub rests_are : (unit c i a : ℕ) → c ≤ unit → i ≤ unit → a ≤ unit
    → (whole 1 ⊖ c over unit).top *ℤ (whole 1 ⊖ i over unit).top *ℤ (whole 1 ⊖ a over unit).top ≡ pos ((unit - c) * (unit - i) * (unit - a))
rests_are unit c i a small_c small_i small_a =
    let rest_is : (n : ℕ) → n ≤ unit → (whole 1 ⊖ n over unit).top ≡ pos (unit - n) = λ n small. omega (arith, ints) in
    rw (rest_is c small_c, rest_is i small_i, rest_is a small_a) refl

pub rests_bound : (unit c i a : ℕ) → (unit - c) * (unit - i) * (unit - a) ≤ unit * unit * unit
rests_bound unit c i a =
    let bound : (n : ℕ) → unit - n ≤ unit = λ n. omega arith in
    mul-le-mul (mul-le-mul (bound c) (bound i)) (bound a)

-- an order of a/p and b/q holds over a further factor too
reaches : (a b : ℤ) (p q n : ℕ) → (a *ℤ pos q) ≤ℤ (b *ℤ pos p) → (a *ℤ pos (q * n)) ≤ℤ (b *ℤ pos (p * n))
reaches a b p q n order =
    let parts : up a * q + down b * p ≤ up b * p + down a * q = omega (arith, ints) in
    omega (arith, ints, mul-le-mul_right n parts)

-- a factor goes into both summands
sum_times : (x y : Exact) (n : ℕ) → (x ⊕ y).top *ℤ pos n ≡ x.top *ℤ pos (y.bottom * n) +ℤ y.top *ℤ pos (x.bottom * n)
sum_times x y n =
    let sum = times_sum (x.top *ℤ pos y.bottom) (y.top *ℤ pos x.bottom) n in
    omega (arith, ints, sum, times_times x.top (pos y.bottom) n, times_times y.top (pos x.bottom) n)

-- of greater summands the sum is greater
pub sum_at_most : (x x' y y' : Exact) → x ⊑ x' → y ⊑ y' → x ⊕ y ⊑ x' ⊕ y'
sum_at_most x x' y y' left right =
    let left_reached = reaches x.top x'.top x.bottom x'.bottom (y.bottom * y'.bottom) left.at_most in
    let right_reached = reaches y.top y'.top y.bottom y'.bottom (x.bottom * x'.bottom) right.at_most in
    let sum = sum_times x y (x'.bottom * y'.bottom) in
    let sum' = sum_times x' y' (x.bottom * y.bottom) in
    record { at_most = omega (arith, ints, left_reached, right_reached, sum, sum') }

-- of a greater number and a smaller one taken away the difference is greater
pub difference_at_most : (x x' y y' : Exact) → x ⊑ x' → y' ⊑ y → x ⊖ y ⊑ x' ⊖ y'
difference_at_most x x' y y' left right =
    let right' : (neg_ℤ y.top *ℤ pos y'.bottom) ≤ℤ (neg_ℤ y'.top *ℤ pos y.bottom) =
    omega (arith, ints, neg_times y.top y'.bottom, neg_times y'.top y.bottom, right.at_most) in
    simp neg_times at (sum_at_most x x' (ratio (neg_ℤ y.top) y.bottom) (ratio (neg_ℤ y'.top) y'.bottom) left (record { at_most = right' }))

-- a factor that is not negative keeps an order
pub scaled_at_most : (x y : Exact) (n m : ℕ) → x ⊑ y → x ⊗ n over m ⊑ y ⊗ n over m
scaled_at_most x y n m order =
    let reached = reaches x.top y.top x.bottom y.bottom (n * m) order.at_most in
    let left = times_times x.top (pos n) (y.bottom * m) in
    let right = times_times y.top (pos n) (x.bottom * m) in
    record { at_most = omega (arith, ints, reached, left, right) }

-- equal summands have equal sums
pub sum_equal : {x x' y y' : Exact} → x ≈ x' → y ≈ y' → x ⊕ y ≈ x' ⊕ y'
sum_equal {x} {x'} {y} {y'} left right =
    equal_from_at_most (x ⊕ y) (x' ⊕ y')
    (sum_at_most x x' y y' (equal_at_most x x' left) (equal_at_most y y' right))
    (sum_at_most x' x y' y (equal_at_most x' x (equal_sym left)) (equal_at_most y' y (equal_sym right)))

-- equal numbers have equal differences
pub difference_equal : {x x' y y' : Exact} → x ≈ x' → y ≈ y' → x ⊖ y ≈ x' ⊖ y'
difference_equal {x} {x'} {y} {y'} left right =
    equal_from_at_most (x ⊖ y) (x' ⊖ y')
    (difference_at_most x x' y y' (equal_at_most x x' left) (equal_at_most y' y (equal_sym right)))
    (difference_at_most x' x y' y (equal_at_most x' x (equal_sym left)) (equal_at_most y y' right))

-- the factors m and n, taken out of a product
times_out : (a b : ℤ) (m n : ℕ) → (a *ℤ pos m) *ℤ (b *ℤ pos n) ≡ (a *ℤ b) *ℤ pos (m * n)
times_out a b m n =
    sym (times_times (a *ℤ pos m) b n)
    ∙ ap (λ z. z *ℤ pos n) (*ℤ_comm (a *ℤ pos m) b ∙ sym (times_times b a m) ∙ ap (λ z. z *ℤ pos m) (*ℤ_comm b a))
    ∙ times_times (a *ℤ b) (pos m) n

-- equal factors have equal products
pub product_equal : {x x' y y' : Exact} → x ≈ x' → y ≈ y' → x ⊗ y ≈ x' ⊗ y'
product_equal {x} {x'} {y} {y'} left right =
    record {
      equal = sym (times_out x.top y.top x'.bottom y'.bottom)
          ∙ ap (λ z. z *ℤ (y.top *ℤ pos y'.bottom)) left.equal ∙ ap (λ z. (x'.top *ℤ pos x.bottom) *ℤ z) right.equal
          ∙ times_out x'.top y'.top x.bottom y.bottom;
    }
