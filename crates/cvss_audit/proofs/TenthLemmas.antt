-- The nearest tenth of a count is that of the number which the count is, or is close to.
use Rattle.std.proofs.Common.{◌≡◌, ◌⊎◌, ℕ, ◌+◌, ◌*◌, ◌^◌, ◌<◌, ℤ, pos, ◌+ℤ◌, ◌≤ℤ◌, ◌<ℤ◌, Bool, true, false, arith, inl, inr, refl, lit<}
use Rattle.std.proofs.lemmas.Int.{ints}
use Rattle.cvss_base.proofs.ExactLemmas.{above_itself, at_most_below, at_most_trans, equal_at_most, equal_sym}
use Rattle.cvss_base.specs.Exact.{Exact, of_count, whole, ◌over◌, ◌⊕◌, ◌≈◌, ◌⊑◌, ◌⊏◌}
use Rattle.cvss_base.specs.Rounding.{half_above, half_below}
use Rattle.cvss_score.specs.v3.Closeness.{IsCloseTo}
use Rattle.cvss_score.specs.v3.Scores.{impact, iss}
use Rattle.cvss_score.specs.declared.v3.rules.Exponent.TheVariants.{Fifteen}
use Rattle.cvss_score.specs.declared.v3.weights.Weights.{Weights}
use Rattle.cvss_score.proofs.v3_lemmas.EqualLemmas.{impact_bottom as exponent_bottom}
use Rattle.cvss_audit.specs.SubScores.{IsNearestTenth}
use Rattle.cvss_audit.specs.private.Tenths.{AreNearest}

-- the half tenth below those that are nearest to a count is at most what the count is at most
from_below : (n : Exact) (c : ℤ) (r : ℕ) → of_count c ⊑ n → AreNearest c r → (r ≡ 0) ⊎ (half_below (pos r) ⊑ n)
from_below n c r at_most nearest = go nearest.not_above where
  go : (r ≡ 0) ⊎ (pos (r * 10 ^ 23) ≤ℤ (c +ℤ pos (5 * 10 ^ 22))) → (r ≡ 0) ⊎ (half_below (pos r) ⊑ n)
  go (inl none) = inl none
  go (inr some) = inr (at_most_trans (half_below (pos r)) (of_count c) n (lit< tt) (record { at_most = omega (arith, ints, some) }) at_most)

pub near_equal : (n : Exact) (c : ℤ) (r : ℕ) → 0 < n.bottom → of_count c ≈ n → AreNearest c r → IsNearestTenth false n r
near_equal n c r some same nearest = record {
  not_above = from_below (n ⊕ whole 0) c r (at_most_trans (of_count c) n (n ⊕ whole 0) some (equal_at_most (of_count c) n same) (above_itself n 0 1)) nearest;
  not_below = to_above nearest.not_below;
} where
  to_above : (r ≡ 255) ⊎ ((c +ℤ pos (5 * 10 ^ 22)) <ℤ pos (r * 10 ^ 23 + 10 ^ 23)) → (r ≡ 255) ⊎ (n ⊏ (half_above (pos r) ⊕ whole 0))
  to_above (inl most) = inl most
  to_above (inr less) = inr (at_most_below n (of_count c) (half_above (pos r) ⊕ whole 0) some (equal_at_most n (of_count c) (equal_sym same)) (record { below = omega (arith, ints, less) }))

near_close : (n : Exact) (c : ℤ) (r : ℕ) → 0 < n.bottom → IsCloseTo n (of_count c) → AreNearest c r → IsNearestTenth true n r
near_close n c r some close nearest = record {
  not_above = from_below (n ⊕ 5 over 10_000_000) c r close.not_above nearest;
  not_below = to_above nearest.not_below;
} where
  to_above : (r ≡ 255) ⊎ ((c +ℤ pos (5 * 10 ^ 22)) <ℤ pos (r * 10 ^ 23 + 10 ^ 23)) → (r ≡ 255) ⊎ (n ⊏ (half_above (pos r) ⊕ 5 over 10_000_000))
  to_above (inl most) = inl most
  to_above (inr less) = inr (at_most_below n (of_count c ⊕ 5 over 10_000_000) (half_above (pos r) ⊕ 5 over 10_000_000) some close.not_below
      (record { below = omega (arith, ints, less) }))

-- a count that is the number where the scope is not changed, and else close to it
pub near_by : (changed : Bool) (n : Exact) (c : ℤ) (r : ℕ) → 0 < n.bottom → IsCloseTo n (of_count c) → (changed ≡ false → of_count c ≈ n)
    → AreNearest c r → IsNearestTenth changed n r
near_by false n c r some close exact nearest = near_equal n c r some (exact refl) nearest
near_by true n c r some close exact nearest = near_close n c r some close nearest

pub impact_bottom : (w : Weights) → 0 < (impact w).bottom
impact_bottom w = exponent_bottom Fifteen w.changed (iss w) (lit< tt)
