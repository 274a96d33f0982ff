-- The first number of the equations is not negative and at most 10, and of greater parts it is greater, and so its
-- rounding.
use Rattle.std.specs.Prelude.{int_lt, if◌then◌else◌}
use Rattle.std.proofs.Common.{◌≡◌, ℕ, zero, suc, ◌*◌, ◌^◌, ◌<◌, ◌≤◌, ℤ, pos, negsuc, ◌≤ℤ◌, Bool, true, false, inl, inr, arith, refl, ap, lit<, ◌*ℤ◌}
use Rattle.std.proofs.lemmas.Int.{ints}
use Rattle.std.proofs.lemmas.Bool.{false≢true}
use Rattle.std.proofs.Math.Nat.{mul-pos}
use Rattle.std.proofs.Math.IntN.{*ℤ_comm}
use Rattle.cvss_base.specs.Exact.{Exact, ratio, ◌over◌, whole, ◌⊕◌, ◌⊗◌, ◌⊑◌}
use Rattle.cvss_base.proofs.ExactLemmas.{at_most_trans, equal_at_most, equal_sym, sum_at_most, scaled_at_most}
use Rattle.cvss_base.proofs.RoundingLemmas.{least_tenth-ordered, v31-ordered}
use Rattle.cvss_score.specs.v3.Scores.{total_of, impact_by, IsRounded}
use Rattle.cvss_score.specs.declared.v3.rules.Exponent.{Exponent}
use Rattle.cvss_score.specs.v3.private.SubScores.{IsSubScore}
use Rattle.cvss_score.proofs.v3_lemmas.CapLemmas.{capped, capped_at_most, capped_to_ten}
use Rattle.cvss_score.proofs.v3_lemmas.CountLemmas.{AreParts}
use Rattle.cvss_score.proofs.v3_lemmas.EqualLemmas.{total_bottom, impact_bottom}
use Rattle.cvss_score.proofs.v3_lemmas.NumberLemmas.{number_of, own_number, own_bottom, equal, settled, none_equal}
use Rattle.cvss_score.proofs.v3_lemmas.RoundLemmas.{between_jumps}

-- a greater number has no smaller rounding
pub ordered : (minor : ℕ) (x y : Exact) (r s : ℤ) → 0 < x.bottom → 0 < y.bottom → x ⊑ y → IsRounded minor x r
    → IsRounded minor y s → r ≤ℤ s
ordered zero x y r s some_x some_y order is_r is_s = least_tenth-ordered x y r s some_x some_y order is_r is_s
ordered (suc minor) x y r s some_x some_y order is_r is_s = v31-ordered x y r s some_x some_y order is_r is_s

-- tenths are their own rounding
pub tenths_rounded : (minor n : ℕ) → IsRounded minor (n over 10) (pos n)
tenths_rounded zero n =
    record { not_below = record { at_most = omega (arith, ints) }; least = record { below = omega (arith, ints) } }
tenths_rounded (suc minor) n =
    between_jumps n 10 n (lit< tt) (record { at_most = omega (arith, ints) }) (record { below = omega (arith, ints) })

-- a number that is not negative has such a rounding
pub rounded_from_zero : (minor : ℕ) (x : Exact) (r : ℤ) → 0 < x.bottom → whole 0 ⊑ x → IsRounded minor x r → pos 0 ≤ℤ r
rounded_from_zero minor x r some from_zero is_r =
    let zero : 0 over 10 ⊑ whole 0 = record { at_most = omega (arith, ints) } in
    ordered minor (0 over 10) x (pos 0) r (lit< tt) some
    (at_most_trans (0 over 10) (whole 0) x (lit< tt) zero from_zero)
    (tenths_rounded minor 0) is_r

-- a first number from its total, by whether there is impact
abbrev chosen : Bool → Exact → Exact
chosen some total = if some then capped total else whole 0

chosen_ordered : (b b' : Bool) (t t' : Exact) → b ≡ true → b' ≡ true → 0 < t.bottom → t ⊑ t' → chosen b t ⊑ chosen b' t'
chosen_ordered true true t t' is is' some order = capped_at_most t t' some order
chosen_ordered false b' t t' is is' some order = absurd (false≢true is)
chosen_ordered true false t t' is is' some order = absurd (false≢true is')

chosen_to_ten : (b : Bool) (t : Exact) → chosen b t ⊑ whole 10
chosen_to_ten true t = capped_to_ten t
chosen_to_ten false t = record { at_most = omega (arith, ints) }

-- 1.08 times a number that is not negative is greater
scaled_up : (top : ℤ) (q : ℕ) → whole 0 ⊑ ratio top q → ratio top q ⊑ 108 over 100 ⊗ ratio top q
scaled_up (pos n) q from_zero = record { at_most = omega (arith, ints) }
scaled_up (negsuc n) zero from_zero = record { at_most = omega (arith, ints) }
scaled_up (negsuc n) (suc q) from_zero = absurd (omega (arith, ints, from_zero.at_most))

scaled_ordered : (x y : Exact) → x ⊑ y → 108 over 100 ⊗ x ⊑ 108 over 100 ⊗ y
scaled_ordered x y order =
    record {
      at_most = omega (
        arith,
        ints,
        (scaled_at_most x y 108 100 order).at_most,
        ap (λ n. n *ℤ pos (100 * y.bottom)) (*ℤ_comm x.top (pos 108)),
        ap (λ n. n *ℤ pos (100 * x.bottom))
            (*ℤ_comm y.top (pos 108)),
      );
    }

sum_from_zero : (x y : Exact) → whole 0 ⊑ x → whole 0 ⊑ y → whole 0 ⊑ x ⊕ y
sum_from_zero x y from_x from_y = sum_at_most (whole 0) x (whole 0) y from_x from_y

total_ordered : (b b' : Bool) (x x' y y' : Exact) → (b ≡ true → b' ≡ true) → 0 < x'.bottom → 0 < y'.bottom → x ⊑ x'
    → y ⊑ y' → whole 0 ⊑ x' → whole 0 ⊑ y'
    → total_of b x y ⊑ total_of b' x' y'
total_ordered false false x x' y y' changes some_x some_y more_x more_y from_x from_y =
    sum_at_most x x' y y' more_x more_y
total_ordered true true x x' y y' changes some_x some_y more_x more_y from_x from_y =
    scaled_ordered (x ⊕ y) (x' ⊕ y') (sum_at_most x x' y y' more_x more_y)
total_ordered true false x x' y y' changes some_x some_y more_x more_y from_x from_y =
    absurd (false≢true (changes refl))
total_ordered false true x x' y y' changes some_x some_y more_x more_y from_x from_y =
    let sum = x' ⊕ y' in
    at_most_trans (x ⊕ y) sum (108 over 100 ⊗ sum) (mul-pos some_x some_y) (sum_at_most x x' y y' more_x more_y)
    (scaled_up sum.top sum.bottom (sum_from_zero x' y' from_x from_y))

-- which impacts are greater, where there are sub-scores
pub record IsImpactOrdered (exponent : Exponent) (b b' : Bool) (s s' : ℕ) : Type 0 where
  pub scope : b ≡ true → b' ≡ true
  pub some : int_lt (pos 0) (impact_by exponent b (s over 1_000_000)).top ≡ true
  pub some' : int_lt (pos 0) (impact_by exponent b' (s' over 1_000_000)).top ≡ true
  pub from_zero : whole 0 ⊑ impact_by exponent b' (s' over 1_000_000)
  pub order : impact_by exponent b (s over 1_000_000) ⊑ impact_by exponent b' (s' over 1_000_000)

own_ordered : (exponent : Exponent) (b b' : Bool) (s s' e e' : ℕ) → IsImpactOrdered exponent b b' s s' → e ≤ e'
    → own_number exponent b s e ⊑ own_number exponent b' s' e'
own_ordered exponent b b' s s' e e' is more =
    let x = s over 1_000_000 in
    let x' = s' over 1_000_000 in
    let y = e over (10 ^ 10) in
    let y' = e' over (10 ^ 10) in
    let bottom = impact_bottom exponent b x (lit< tt) in
    let bottom' = impact_bottom exponent b' x' (lit< tt) in
    chosen_ordered _ _ (total_of b (impact_by exponent b x) y) (total_of b' (impact_by exponent b' x') y')
    is.some is.some' (total_bottom b (impact_by exponent b x) y bottom (lit< tt))
    (total_ordered b b' (impact_by exponent b x) (impact_by exponent b' x') y y' is.scope bottom' (lit< tt) is.order
    (record { at_most = omega (arith, ints) }) is.from_zero (record { at_most = omega (arith, ints) }))

-- the first number of the equations is not negative
pub not_negative : (exponent : Exponent) (changed : Bool) (s : ℕ) (S : Exact) (e : ℕ) (E : Exact)
    → AreParts changed s S e E
    → whole 0 ⊑ number_of exponent changed S E
not_negative exponent changed s S e E parts = elim parts.sub_score as (λ _. whole 0 ⊑ number_of exponent changed S E) [
  | inl is_zero ↦ equal_at_most (whole 0) _ (none_equal exponent changed s S e E parts is_zero)
  | inr sub_score ↦
      at_most_trans (whole 0) _ _ (own_bottom exponent changed s S e E parts)
      (settled exponent changed s S e E parts sub_score).at.not_negative
      (equal_at_most _ _ (equal exponent changed s S e E parts))
]

-- nor above 10
pub number_to_ten : (exponent : Exponent) (changed : Bool) (S E : Exact) → number_of exponent changed S E ⊑ whole 10
number_to_ten exponent changed S E = chosen_to_ten _ (total_of changed (impact_by exponent changed S) E)

-- of greater parts it is greater
module _ (exponent : Exponent) (b b' : Bool) (s : ℕ) (S : Exact) (e : ℕ) (E : Exact) (parts : AreParts b s S e E)
    (s' : ℕ) (S' : Exact) (e' : ℕ) (E' : Exact) (parts' : AreParts b' s' S' e' E') where
  pub number_ordered : s ≤ s' → e ≤ e' → (IsSubScore s → IsSubScore s' → IsImpactOrdered exponent b b' s s')
      → number_of exponent b S E ⊑ number_of exponent b' S' E'
  number_ordered more more_e impacts =
      elim parts.sub_score as (λ _. number_of exponent b S E ⊑ number_of exponent b' S' E') [
        | inl is_zero ↦
            at_most_trans _ (whole 0) _ (lit< tt) (equal_at_most _ (whole 0)
            (equal_sym (none_equal exponent b s S e E parts is_zero)))
            (not_negative exponent b' s' S' e' E' parts')
        | inr sub_score ↦ elim parts'.sub_score as (λ _. number_of exponent b S E ⊑ number_of exponent b' S' E') [
          | inl is_zero ↦ absurd (omega (arith, sub_score.low))
          | inr sub_score' ↦
              at_most_trans _ _ _ (own_bottom exponent b s S e E parts)
              (equal_at_most _ _ (equal_sym (equal exponent b s S e E parts)))
              (at_most_trans _ _ _ (own_bottom exponent b' s' S' e' E' parts')
              (own_ordered exponent b b' s s' e e' (impacts sub_score sub_score') more_e)
              (equal_at_most _ _ (equal exponent b' s' S' e' E' parts')))
        ]
      ]
