-- What the whole numbers of the code say of the exact numbers of the equations.
use Rattle.std.proofs.Common.{◌≡◌, ℕ, ◌+◌, ◌-◌, ◌*◌, ◌^◌, ◌≤◌, ℤ, pos, ◌+ℤ◌, ◌-ℤ◌, ◌*ℤ◌, ◌≤ℤ◌, neg_ℤ, arith, refl, ap, ◌∙◌, lit<, sym}
use Rattle.std.proofs.lemmas.Int.{ints}
use Rattle.std.proofs.Math.Nat.{mul-le-mul_right}
use borrow.Author.Differences.{up, down}
use Rattle.cvss_base.specs.Exact.{ratio, whole, ◌over◌, of_count, thousandths, tenths, ◌≈◌}
use Rattle.cvss_base.specs.Rounding.{IsRoundedV2}
use Rattle.cvss_base.proofs.ExactLemmas.{rests_are, rests_bound, times_times, times_sum, times_difference}
use Rattle.cvss_base.proofs.RoundingLemmas.{v2-equal}
use Rattle.cvss_score.specs.v2.Scores.{impact_of, temporal_number, environmental_number}

-- Impact as a count, of weights in millionths
pub impact_is : (count : ℤ) (c i a : ℕ) → c ≤ 1_000_000 → i ≤ 1_000_000 → a ≤ 1_000_000
    → count ≡ pos ((10 ^ 18 - (1_000_000 - c) * (1_000_000 - i) * (1_000_000 - a)) * 10_410_000)
    → of_count count ≈ impact_of (c over 1_000_000) (i over 1_000_000) (a over 1_000_000)
impact_is count c i a small_c small_i small_a is_count =
    let rests = rests_are 1_000_000 c i a small_c small_i small_a in
    record { equal = omega (arith, ints, rests, rests_bound 1_000_000 c i a) }

-- Impact in 10^-11, of weights in thousandths
pub own_impact_is : (c i a : ℕ) → c ≤ 1000 → i ≤ 1000 → a ≤ 1000
    → ratio (pos ((10 ^ 9 - (1000 - c) * (1000 - i) * (1000 - a)) * 1041)) (10 ^ 11)
    ≈ impact_of (thousandths c) (thousandths i) (thousandths a)
own_impact_is c i a small_c small_i small_a =
    let rests = rests_are 1000 c i a small_c small_i small_a in
    record { equal = omega (arith, ints, rests, rests_bound 1000 c i a) }

-- what the temporal score is the rounding of, in 10^-10
pub temporal_is : (base : ℤ) (e rl rc : ℕ) {product number : ℤ} {weights : ℕ}
    → weights ≡ e * rl * rc → product ≡ base *ℤ pos weights → number ≡ product
    → ratio number (10 ^ 10) ≈ temporal_number (tenths base) (thousandths e) (thousandths rl) (thousandths rc)
temporal_is base e rl rc are_weights is_product is_number =
    let grouped = ap (λ z. z *ℤ pos rc) (times_times base (pos e) rl) ∙ times_times base (pos (e * rl)) rc in
    let is_weighted = is_product ∙ ap (λ n. base *ℤ pos n) are_weights ∙ sym grouped in
    record { equal = omega (arith, ints, is_weighted) }

-- what damage leaves of a temporal score and what it adds, in 10^-4
damage_parted : (temporal : ℤ) (cdp left : ℕ) → cdp + left ≡ 1000
    → temporal *ℤ pos 10_000 +ℤ (pos 100 -ℤ temporal *ℤ pos 1) *ℤ pos cdp *ℤ pos 10
    ≡ temporal *ℤ pos (10 * left) +ℤ pos (1000 * cdp)
damage_parted temporal cdp left whole =
    omega (
      arith,
      ints,
      times_difference (pos 100) (temporal *ℤ pos 1) cdp,
      times_times temporal (pos 1) cdp,
      ap (λ n. up temporal * n) whole,
      ap (λ n. down temporal * n) whole,
    )

-- what the environmental score is the rounding of, in 10^-7
pub environmental_is : (temporal : ℤ) (cdp td : ℕ) {undamaged number : ℤ} {left damaged : ℕ}
    → cdp ≤ 1000 → left ≡ (1000 - cdp) * td * 1 → damaged ≡ 100 * cdp * td → undamaged ≡ temporal *ℤ pos left
    → number ≡ undamaged +ℤ pos damaged
    → ratio number (10 ^ 7) ≈ environmental_number (tenths temporal) (thousandths cdp) (thousandths td)
environmental_is temporal cdp td small is_left is_damaged is_undamaged is_number =
    let rate = 1000 - cdp in
    let is_product = is_undamaged ∙ ap (λ n. temporal *ℤ pos n) is_left in
    let parted = ap (λ z. z *ℤ pos td) (damage_parted temporal cdp rate (omega arith)) in
    let parts = times_sum (temporal *ℤ pos (10 * rate)) (pos (1000 * cdp)) td in
    let grouped = times_times temporal (pos (10 * rate)) td in
    record { equal = omega (arith, ints, is_product, parted, parts, grouped) }

-- a count, rounded in 10^-28
pub count_rounded : (count : ℤ) {number r : ℤ} → number ≡ count *ℤ pos 10_000
    → IsRoundedV2 (ratio number (10 ^ 28)) r → IsRoundedV2 (of_count count) r
count_rounded count {number} is_number rounded =
    let is_count : ratio number (10 ^ 28) ≈ of_count count = record { equal = omega (arith, ints) } in
    v2-equal (lit< tt) (lit< tt) is_count refl rounded

-- a number of 10^-28 from -m tenths on is rounded to no less
pub rounded_low : {number r s : ℤ} (m : ℕ) → neg_ℤ (pos (m * 10 ^ 27)) ≤ℤ number → r ≡ s
    → IsRoundedV2 (ratio number (10 ^ 28)) r → neg_ℤ (pos m) ≤ℤ s
rounded_low m low same rounded = omega (arith, ints, rounded.lifted.nearest.to_half_above.at_most)

-- and one of at most n tenths to no more
pub rounded_high : {number r s : ℤ} (n : ℕ) → number ≤ℤ pos (n * 10 ^ 27) → r ≡ s
    → IsRoundedV2 (ratio number (10 ^ 28)) r → s ≤ℤ pos n
rounded_high n high same rounded = omega (arith, ints, rounded.lifted.nearest.from_half_below.at_most)

-- a number from -m on, times weights
pub product_low : (number : ℤ) (m weights : ℕ) → neg_ℤ (pos m) ≤ℤ number
    → neg_ℤ (pos (m * weights)) ≤ℤ (number *ℤ pos weights)
product_low number m weights low =
    let parts : down number ≤ up number + m = omega (arith, ints) in
    omega (arith, ints, mul-le-mul_right weights parts)

-- a number of at most n, times weights
pub product_high : (number : ℤ) (n weights : ℕ) → number ≤ℤ pos n → (number *ℤ pos weights) ≤ℤ pos (n * weights)
product_high number n weights high =
    let parts : up number ≤ n + down number = omega (arith, ints) in
    omega (arith, ints, mul-le-mul_right weights parts)

-- the weights of what damage leaves and of what it adds make up the target distribution
pub weights_add : (cdp td : ℕ) → cdp ≤ 1000 → (1000 - cdp) * td * 1 + cdp * td ≡ 1000 * td
weights_add cdp td small =
    let whole : 1000 - cdp + cdp ≡ 1000 = omega arith in
    omega (arith, ap (λ n. n * td) whole)
