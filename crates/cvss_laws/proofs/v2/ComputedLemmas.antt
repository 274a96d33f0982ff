-- Each number that is rounded on the way to a score of a vector has one nearest tenth with 10^-6 added and without, and
-- what the environmental score is the rounding of is at least published as one: by trying all.
use Rattle.std.specs.Int.{int_max}
use Rattle.std.specs.List.{list_all}
use Rattle.std.specs.Ordering.{int_eq}
use Rattle.std.specs.Prelude.{unsigned_abs}
use Rattle.std.proofs.Common.{◌≡◌, ◌≢◌, ℕ, ◌^◌, ◌<◌, ℤ, pos, ◌+ℤ◌, ◌-ℤ◌, Bool, true, ◌&&◌, ◌||◌, eqb, ltb, not, inl, inr, arith, refl, rules, subst, lit<}
use Rattle.std.proofs.lemmas.Bool.{or_cases, eqb-true, eqb-false, ltb-true, not-true}
use Rattle.std.proofs.lemmas.Bool.Decides.{Decides-int_eq}
use Rattle.cvss_base.specs.Exact.{Exact, ◌over◌, whole, thousandths, tenths, smaller}
use Rattle.cvss_base.specs.Rounding.{IsNearestAway, IsRoundedV2}
use Rattle.cvss_base.proofs.RoundingLemmas.{nearest_of, nearest_tenths, nearest_is, v2_tenths, v2_is}
use Rattle.cvss_base.specs.declared.v2.MetricType.TheVariants.{A, C, I, E, RL, RC, CDP, TD, CR, IR, AR}
use Rattle.cvss_score.specs.v2.Scores.{impact_of, impact, adjusted_impact, exploitability, base_number, temporal_number, environmental_number}
use Rattle.cvss_vector.specs.declared.v2.vector.Vector.{Vector}
use Rattle.cvss_vector.specs.v2.Weights.{weights_of}
use Rattle.cvss_base.proofs.TestLemmas.{passes, passes_two, passes_three, all_below, below_passes}
use Rattle.cvss_laws.proofs.v2.TableLemmas.{weights, weight_listed, weighted_impacts, weighted_listed, exploitabilities, exploitability_listed}

-- so many tenths above -0.8, than which no adjusted base score is less
abbrev pub above_least : ℕ → ℤ
above_least n = pos n -ℤ pos 8

-- the place of the tenth nearest to x
abbrev pub place : Exact → ℕ
place x = unsigned_abs (nearest_tenths x +ℤ pos 8)

-- whether x and x + 10^-6 have one nearest tenth, from -0.8 to 10 except for one
unfoldable rounds_alike : ℕ → Exact → Bool
rounds_alike left_out x =
    (not (eqb (place x) left_out) && ltb (place x) 109)
    && (int_eq (v2_tenths x) (above_least (place x)) && int_eq (nearest_tenths x) (above_least (place x)))

-- so many tenths above -0.8, at most 10, are the v2 rounding of x and its nearest tenth
pub record IsAlike (left_out : ℕ) (x : Exact) (n : ℕ) : Type 0 where
  pub other : n ≢ left_out
  pub to_ten : n < 109
  pub by_v2 : IsRoundedV2 x (above_least n)
  pub plain : IsNearestAway x (above_least n)

alike_if : (left_out : ℕ) (x : Exact) → 0 < x.bottom → rounds_alike left_out x ≡ true → IsAlike left_out x (place x)
unfolding rounds_alike
alike_if left_out x some holds = record {
  other = eqb-false (place x) left_out (not-true (eqb (place x) left_out) (search rules));
  to_ten = ltb-true (place x) 109 (search rules);
  by_v2 = subst (λ (r : ℤ). IsRoundedV2 x r) ((Decides-int_eq _ _).0 (search rules)) (v2_is x some);
  plain = subst (λ (r : ℤ). IsNearestAway x r) ((Decides-int_eq _ _).0 (search rules)) (nearest_is x some);
}

-- whether the base number rounds alike, and not to -0.5, of which some products with E, RL and RC do not, with each
-- exploitability
unfoldable bases_alike : Exact → Bool
bases_alike impact = list_all (λ x. rounds_alike 3 (base_number impact (x over (10 ^ 9)))) exploitabilities

-- with each impact
impacts_alike : list_all (λ c. list_all (λ i. list_all (λ a.
    bases_alike (impact_of (thousandths c) (thousandths i) (thousandths a)))
    (weights A)) (weights I)) (weights C) ≡ true
unfolding bases_alike rounds_alike nearest_of
impacts_alike = refl

-- with each adjusted impact
adjusted_impacts_alike : list_all (λ c. list_all (λ i. list_all (λ a.
    bases_alike (smaller (whole 10) (impact_of (c over 1_000_000) (i over 1_000_000) (a over 1_000_000))))
    weighted_impacts) weighted_impacts) weighted_impacts ≡ true
unfolding bases_alike rounds_alike nearest_of
adjusted_impacts_alike = refl

-- whether so many tenths above -0.8, times weights, round alike, where they are not -0.5
unfoldable temporal_alike : ℕ → ℕ → ℕ → ℕ → Bool
temporal_alike e rl rc n =
    eqb n 3 || rounds_alike 109 (temporal_number (tenths (above_least n)) (thousandths e) (thousandths rl) (thousandths rc))

-- with all weights, from -0.8 to 10
temporals_alike : list_all (λ e. list_all (λ rl. list_all (λ rc. all_below (temporal_alike e rl rc) 109)
    (weights RC)) (weights RL)) (weights E) ≡ true
unfolding all_below temporal_alike rounds_alike nearest_of
temporals_alike = refl

-- whether what the environmental score is the rounding of is published alike
unfoldable environmental_alike : ℕ → ℕ → ℕ → Bool
environmental_alike cdp td n =
    let number = environmental_number (tenths (above_least n)) (thousandths cdp) (thousandths td) in
    int_eq (int_max (pos 0) (v2_tenths number)) (int_max (pos 0) (nearest_tenths number))

-- with all weights, from -0.8 to 10
environmentals_alike : list_all (λ cdp. list_all (λ td. all_below (environmental_alike cdp td) 109)
    (weights TD)) (weights CDP) ≡ true
unfolding all_below environmental_alike nearest_of
environmentals_alike = refl

-- a base number rounds alike, and not to -0.5
abbrev pub IsBaseAlike : Exact → Type 0
IsBaseAlike number = IsAlike 3 number (place number)

-- with the exploitability of a vector
of_exploitability : (v : Vector) (impact : Exact) → 0 < impact.bottom → bases_alike impact ≡ true
    → IsBaseAlike (base_number impact (exploitability (weights_of v)))
unfolding bases_alike
of_exploitability v impact some holds =
    alike_if 3 (base_number impact (exploitability (weights_of v))) (omega arith)
    (passes (λ x. rounds_alike 3 (base_number impact (x over (10 ^ 9)))) exploitabilities _ holds (exploitability_listed v))

pub base_is_alike : (v : Vector) → IsBaseAlike (base_number (impact (weights_of v)) (exploitability (weights_of v)))
base_is_alike v =
    of_exploitability v (impact (weights_of v)) (lit< tt)
    (passes_three (λ c i a. bases_alike (impact_of (thousandths c) (thousandths i) (thousandths a)))
    (weights C) (weights I) (weights A) _ _ _ impacts_alike (weight_listed v C) (weight_listed v I) (weight_listed v A))

pub adjusted_base_is_alike : (v : Vector)
    → IsBaseAlike (base_number (adjusted_impact (weights_of v)) (exploitability (weights_of v)))
adjusted_base_is_alike v =
    let w = weights_of v in
    of_exploitability v (adjusted_impact w) (lit< tt)
    (passes_three (λ c i a.
    bases_alike (smaller (whole 10) (impact_of (c over 1_000_000) (i over 1_000_000) (a over 1_000_000))))
    weighted_impacts weighted_impacts weighted_impacts _ _ _ adjusted_impacts_alike
    (weighted_listed w.c w.cr (weight_listed v C) (weight_listed v CR))
    (weighted_listed w.i w.ir (weight_listed v I) (weight_listed v IR))
    (weighted_listed w.a w.ar (weight_listed v A) (weight_listed v AR)))

-- what the temporal score is the rounding of, with so many tenths above -0.8 in the place of the base score
abbrev pub temporal_from : Vector → ℕ → Exact
temporal_from v n =
    let w = weights_of v in
    temporal_number (tenths (above_least n)) (thousandths w.e) (thousandths w.rl) (thousandths w.rc)

pub temporal_is_alike : (v : Vector) (n : ℕ) → n < 109 → n ≢ 3 → IsAlike 109 (temporal_from v n) (place (temporal_from v n))
unfolding temporal_alike
temporal_is_alike v n to_ten other =
    let w = weights_of v in
    let all = passes_three (λ e rl rc. all_below (temporal_alike e rl rc) 109) (weights E) (weights RL) (weights RC)
    w.e w.rl w.rc temporals_alike (weight_listed v E) (weight_listed v RL) (weight_listed v RC) in
    elim (or_cases (eqb n 3) (rounds_alike 109 (temporal_from v n)) (below_passes (temporal_alike w.e w.rl w.rc) 109 n all to_ten)) [
      | inl is_other ↦ absurd (other (eqb-true n 3 is_other))
      | inr alike ↦ alike_if 109 (temporal_from v n) (lit< tt) alike
    ]

-- what the environmental score is the rounding of, with these tenths in the place of the temporal
abbrev pub environmental_from : Vector → ℕ → Exact
environmental_from v n =
    let w = weights_of v in
    environmental_number (tenths (above_least n)) (thousandths w.cdp) (thousandths w.td)

pub environmental_is_alike : (v : Vector) (n : ℕ) → n < 109
    → int_max (pos 0) (v2_tenths (environmental_from v n)) ≡ int_max (pos 0) (nearest_tenths (environmental_from v n))
unfolding environmental_alike
environmental_is_alike v n to_ten =
    let w = weights_of v in
    let all = passes_two (λ cdp td. all_below (environmental_alike cdp td) 109) (weights CDP) (weights TD) w.cdp w.td
    environmentals_alike (weight_listed v CDP) (weight_listed v TD) in
    (Decides-int_eq _ _).0 (below_passes (environmental_alike w.cdp w.td) 109 n all to_ten)
