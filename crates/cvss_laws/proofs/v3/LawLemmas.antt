-- The temporal score of a vector is at most its base score.
use Rattle.std.proofs.Common.{◌≡◌, ℕ, ◌*◌, ◌^◌, ◌≤◌, ℤ, pos, negsuc, ◌≤ℤ◌, arith, refl, subst, lit<}
use Rattle.std.proofs.lemmas.Int.{ints}
use Rattle.std.proofs.Math.Nat.{mul-le-mul, le_refl}
use Rattle.cvss_base.specs.Exact.{◌over◌, whole, ◌⊑◌}
use Rattle.cvss_score.specs.v3.Scores.{base_number, temporal_number, IsRounded, IsBaseScore, IsTemporalScore}
use Rattle.cvss_score.specs.v3.Bounds.{exploit_code_maturities, remediation_levels, report_confidences}
use Rattle.cvss_score.specs.declared.v3.rules.Exponent.TheVariants.{Fifteen}
use Rattle.cvss_score.proofs.v3_lemmas.CountLemmas.{base_parts}
use Rattle.cvss_score.proofs.v3_lemmas.EqualLemmas.{base_bottom}
use Rattle.cvss_score.proofs.v3_lemmas.LawLemmas.{base_once}
use Rattle.cvss_score.proofs.v3_lemmas.SubScoreLemmas.{weight_bound}
use Rattle.cvss_vector.specs.v3.VectorWeights.{weights_of}
use Rattle.cvss_vector.specs.declared.v3.vector.Vector.{Vector}
use Rattle.cvss_vector.proofs.v3.TableLemmas.{weights_listed}
use Rattle.cvss_laws.proofs.v3.NumberLemmas.{ordered, tenths_rounded, rounded_from_zero, not_negative}

base_not_negative : (v : Vector) → whole 0 ⊑ base_number (weights_of v)
base_not_negative v = let w = weights_of v in not_negative Fifteen w.changed _ _ _ _ (base_parts w (weights_listed v))

-- the product of E, RL and RC
temporal_bound : (v : Vector) → (weights_of v).e * (weights_of v).rl * (weights_of v).rc ≤ 10 ^ 6
temporal_bound v =
    let are = weights_listed v in
    mul-le-mul (mul-le-mul (weight_bound exploit_code_maturities _ 100 refl are.e) (weight_bound remediation_levels _ 100 refl are.rl))
    (weight_bound report_confidences _ 100 refl are.rc)

-- tenths that are not negative, times E, RL and RC, are rounded to no more
product_at_most : (minor : ℕ) (v : Vector) (m r : ℤ) → pos 0 ≤ℤ m → IsRounded minor (temporal_number m (weights_of v)) r → r ≤ℤ m
product_at_most minor v (pos n) r from_zero rounded =
    let w = weights_of v in
    let product : n * (w.e * w.rl * w.rc) ≤ n * 10 ^ 6 = mul-le-mul (le_refl n) (temporal_bound v) in
    let order : temporal_number (pos n) w ⊑ n over 10 = record { at_most = omega (arith, ints) } in
    ordered minor (temporal_number (pos n) w) (n over 10) r (pos n) (lit< tt) (lit< tt) order rounded (tenths_rounded minor n)
product_at_most minor v (negsuc n) r from_zero rounded = absurd (omega (arith, ints))

pub temporal_at_most_base : (minor : ℕ) (v : Vector) (base temporal : ℤ)
    → IsBaseScore minor (weights_of v) base → IsTemporalScore minor (weights_of v) temporal → temporal ≤ℤ base
temporal_at_most_base minor v base temporal is_base is_temporal =
    let w = weights_of v in
    let b = is_base.number in
    let parts = is_temporal.is_number in
    let same : parts.base ≡ b = base_once minor w parts.base b parts.is_base is_base.is_number in
    let from_zero = rounded_from_zero minor (base_number w) b (base_bottom w) (base_not_negative v) is_base.is_number in
    let rounded = subst (λ z. IsRounded minor (temporal_number z w) is_temporal.number) same parts.is_rounded in
    let at_most = product_at_most minor v b is_temporal.number from_zero rounded in
    omega (arith, ints, is_base.is_count, is_temporal.is_count)
