-- Greater modified weights give no smaller environmental scores in v3.1, and in v3.0 scores that are at most 0.1
-- smaller, although the impact falls above a MISS of 0.9125 in v3.1, and of 0.895 in v3.0.
use Rattle.std.specs.List.{list_all, Contains}
use Rattle.std.proofs.Common.{◌≡◌, ℕ, zero, suc, ◌+◌, ◌*◌, ◌/◌, ◌^◌, ◌≤◌, min, ℤ, pos, negsuc, ◌+ℤ◌, ◌≤ℤ◌, Bool, true, false, eqb, ltb, leb, ◌||◌, inl, inr, arith, refl, sym, ◌∙◌, lit<, mul-le-mul}
use Rattle.std.proofs.lemmas.Int.{ints}
use Rattle.std.proofs.lemmas.Bool.{leb-true, ltb-true, or_cases, false≢true}
use Rattle.cvss_base.specs.Exact.{Exact, ◌over◌}
use Rattle.cvss_base.proofs.TestLemmas.{passes, passes_two}
use Rattle.cvss_score.specs.AtMost.{IsAtMost}
use Rattle.cvss_score.specs.v3.Bounds.{AreOfTables, exploit_code_maturities, remediation_levels, report_confidences}
use Rattle.cvss_score.specs.v3.Scores.{temporal_number, power, changed_impact, changed_modified_impact, environmental_number, modified_exponent, IsRounded, IsEnvironmentalScore}
use Rattle.cvss_score.specs.declared.v3.weights.Weights.{Weights}
use Rattle.cvss_score.specs.v3.private.SubScores.{sub_scores, exploitabilities, IsSubScore}
use Rattle.cvss_score.specs.v3.private.Units.{modified_parts as units_of}
use Rattle.cvss_score.proofs.v3_lemmas.CountLemmas.{AreParts, modified_parts}
use Rattle.cvss_score.proofs.v3_lemmas.EqualLemmas.{environmental_bottom, rounds_equal, rounded_once}
use Rattle.cvss_score.proofs.v3_lemmas.NumberLemmas.{number_of, own_number, own_bottom, bottom, equal, own_rounded}
use Rattle.cvss_score.proofs.v3_lemmas.SettledLemmas.{tenth_above, jump_above, settled_tenths}
use Rattle.cvss_score.proofs.v3_lemmas.SubScoreLemmas.{weight_bound}
use Rattle.cvss_laws.specs.any.Severity.{AreInOrder}
use Rattle.cvss_laws.specs.v3.Severity.{environmental_weights}
use Rattle.cvss_laws.proofs.v3.AlikeLemmas.{environmental_score_alike}
use Rattle.cvss_laws.proofs.v3.NumberLemmas.{ordered, rounded_from_zero, not_negative, IsImpactOrdered, number_ordered}
use Rattle.cvss_laws.proofs.v3.SevereLemmas.{is_some, are_ordered, impacts_ordered, units_ordered, product_ordered, scope_kept}

all_some : (minor : ℕ) (b : Bool) → list_all (is_some (modified_exponent minor) b) sub_scores ≡ true
unfolding is_some power changed_impact changed_modified_impact
all_some zero false = refl
all_some zero true = refl
all_some (suc minor) false = refl
all_some (suc minor) true = refl

-- to how many tenths a number is rounded, by the minor version
abbrev above : ℕ → Exact → ℕ
above zero n = tenth_above n
above (suc minor) n = jump_above n

-- the first number of the environmental score, of a sub-score and an exploitability
abbrev first : ℕ → Bool → ℕ → ℕ → Exact
first minor changed s e = own_number (modified_exponent minor) changed s e

-- by how many tenths the more severe may score less
abbrev pub slack : ℕ → ℕ
slack zero = 1
slack (suc minor) = 0

-- in v3.1 without exploitability a changed scope may score less: of MISS 0.11 it gives 0.7, and an unchanged one 0.8
abbrev is_left_out : ℕ → Bool → Bool → ℕ → Bool
is_left_out (suc minor) false true e = eqb e 0
is_left_out minor b b' e = false

-- whether the rounding of the second number is within the slack
unfoldable roundings_within : ℕ → Bool → Bool → ℕ → ℕ → ℕ → ℕ → Bool
roundings_within minor b b' s s' e e' =
    is_left_out minor b b' e
    || (ltb e' e || leb (above minor (first minor b s e)) (above minor (first minor b' s' e') + slack minor))

-- whether the impacts are in order, or else the roundings with all exploitabilities
unfoldable steps_within : ℕ → Bool → Bool → ℕ → ℕ → Bool
steps_within minor b b' s s' =
    are_ordered (modified_exponent minor) b b' s s'
    || list_all (λ e. list_all (roundings_within minor b b' s s' e) (exploitabilities b')) (exploitabilities b)

all_within : (minor : ℕ) (b b' : Bool) → (b ≡ true → b' ≡ true)
    → list_all (λ s. list_all (steps_within minor b b' s) sub_scores) sub_scores ≡ true
unfolding are_ordered roundings_within steps_within tenth_above jump_above power changed_impact changed_modified_impact
all_within zero false false changes = refl
all_within zero false true changes = refl
all_within zero true true changes = refl
all_within (suc minor) false false changes = refl
all_within (suc minor) false true changes = refl
all_within (suc minor) true true changes = refl
all_within minor true false changes = absurd (false≢true (changes refl))

roundings_if : (minor : ℕ) (b b' : Bool) (s s' e e' : ℕ) → is_left_out minor b b' e ≡ false → e ≤ e'
    → roundings_within minor b b' s s' e e' ≡ true
    → above minor (first minor b s e) ≤ above minor (first minor b' s' e') + slack minor
unfolding roundings_within
roundings_if minor b b' s s' e e' other more holds = elim (or_cases (is_left_out minor b b' e) _ holds) [
  | inl is ↦ absurd (false≢true (sym other ∙ is))
  | inr rest ↦ elim (or_cases (ltb e' e) _ rest) [
    | inl less ↦ absurd (omega (arith, ltb-true e' e less))
    | inr order ↦ leb-true (above minor (first minor b s e)) (above minor (first minor b' s' e') + slack minor) order
  ]
]

steps_if : {P : Type 0} (minor : ℕ) (b b' : Bool) (s s' e e' : ℕ) → Contains (exploitabilities b) e
    → Contains (exploitabilities b') e'
    → steps_within minor b b' s s' ≡ true → (are_ordered (modified_exponent minor) b b' s s' ≡ true → P)
    → (roundings_within minor b b' s s' e e' ≡ true → P) → P
unfolding steps_within
steps_if minor b b' s s' e e' listed listed' holds by_order by_roundings =
    elim (or_cases (are_ordered (modified_exponent minor) b b' s s') _ holds) [
      | inl order ↦ by_order order
      | inr all ↦ by_roundings (passes_two (roundings_within minor b b' s s') (exploitabilities b)
          (exploitabilities b') e e' all listed listed')
    ]

settled_above : (minor : ℕ) (n : Exact) → settled_tenths minor n ≡ pos (above minor n)
settled_above zero n = refl
settled_above (suc minor) n = refl

-- the rounding of the equations' number is that of the listed parts
tenths_of : (minor : ℕ) (b : Bool) (s : ℕ) (S : Exact) (e : ℕ) (E : Exact) → AreParts b s S e E → IsSubScore s → (r : ℤ)
    → IsRounded minor (number_of (modified_exponent minor) b S E) r → r ≡ pos (above minor (first minor b s e))
tenths_of minor b s S e E parts sub_score r is_r =
    let exponent = modified_exponent minor in
    let some = bottom exponent b s S e E parts in
    rounded_once minor (number_of exponent b S E) r _ some is_r
    (rounds_equal minor (own_bottom exponent b s S e E parts) some (equal exponent b s S e E parts) _
    (own_rounded exponent b s S e E parts sub_score minor))
    ∙ settled_above minor (first minor b s e)

module _ (minor : ℕ) (b b' : Bool) (changes : b ≡ true → b' ≡ true)
    (s : ℕ) (S : Exact) (e : ℕ) (E : Exact) (parts : AreParts b s S e E)
    (s' : ℕ) (S' : Exact) (e' : ℕ) (E' : Exact) (parts' : AreParts b' s' S' e' E') (more : s ≤ s') (more_e : e ≤ e')
    (other : is_left_out minor b b' e ≡ false) (r t : ℤ)
    (is_r : IsRounded minor (number_of (modified_exponent minor) b S E) r)
    (is_t : IsRounded minor (number_of (modified_exponent minor) b' S' E') t) where
  -- where the impacts are in order
  by_numbers : (IsSubScore s → IsSubScore s' → IsImpactOrdered (modified_exponent minor) b b' s s')
      → r ≤ℤ (t +ℤ pos (slack minor))
  by_numbers impacts =
      let exponent = modified_exponent minor in
      let order = ordered minor (number_of exponent b S E) (number_of exponent b' S' E') r t
      (bottom exponent b s S e E parts) (bottom exponent b' s' S' e' E' parts')
      (number_ordered exponent b b' s S e E parts s' S' e' E' parts' more more_e impacts) is_r is_t in
      omega (arith, ints, order)

  rounding_within : r ≤ℤ (t +ℤ pos (slack minor))
  rounding_within = elim parts.sub_score as (λ _. r ≤ℤ (t +ℤ pos (slack minor))) [
    | inl is_zero ↦ by_numbers (λ sub_score sub_score'. absurd (omega (arith, is_zero, sub_score.low)))
    | inr sub_score ↦ elim parts'.sub_score as (λ _. r ≤ℤ (t +ℤ pos (slack minor))) [
      | inl is_zero ↦ absurd (omega (arith, is_zero, more, sub_score.low))
      | inr sub_score' ↦
          steps_if minor b b' s s' e e' parts.listed parts'.listed
          (passes_two (steps_within minor b b') sub_scores sub_scores s s' (all_within minor b b' changes)
          sub_score.listed sub_score'.listed)
          (λ order. by_numbers (λ _ _. impacts_ordered (modified_exponent minor) b b' s s' changes sub_score.low more
          (passes (is_some (modified_exponent minor) b) sub_scores s (all_some minor b) sub_score.listed)
          (passes (is_some (modified_exponent minor) b') sub_scores s' (all_some minor b') sub_score'.listed) order))
          (λ roundings.
          let less = tenths_of minor b s S e E parts sub_score r is_r in
          let greater = tenths_of minor b' s' S' e' E' parts' sub_score' t is_t in
          let order = roundings_if minor b b' s s' e e' other more_e roundings in
          omega (arith, ints, less, greater, order))
    ]
  ]

weighted_ordered : (r i r' i' : ℕ) → r ≤ r' → i ≤ i' → r * i / 100 ≤ r' * i' / 100
weighted_ordered r i r' i' more_r more_i = omega (arith, mul-le-mul more_r more_i)

capped_ordered : (m n : ℕ) → m ≤ n → min m 915_000 ≤ min n 915_000
capped_ordered m n more = omega (arith, more)

-- tenths that are at most one less, times weights, are rounded in v3.0 to at most one less
product_within_one : (w w' : Weights) → AreOfTables w' → w.e ≤ w'.e → w.rl ≤ w'.rl → w.rc ≤ w'.rc → (m n r s : ℤ)
    → pos 0 ≤ℤ m → pos 0 ≤ℤ n
    → m ≤ℤ (n +ℤ pos 1) → IsRounded 0 (temporal_number m w) r → IsRounded 0 (temporal_number n w') s → r ≤ℤ (s +ℤ pos 1)
product_within_one w w' are e rl rc (negsuc m) n r s low low' order is_r is_s = absurd (omega (arith, ints, low))
product_within_one w w' are e rl rc (pos m) (negsuc n) r s low low' order is_r is_s = absurd (omega (arith, ints, low'))
product_within_one w w' are e rl rc (pos m) (pos n) r s low low' order is_r is_s =
    let k = w.e * w.rl * w.rc in
    let k' = w'.e * w'.rl * w'.rc in
    let small : k' ≤ 10 ^ 6 =
    mul-le-mul (mul-le-mul (weight_bound exploit_code_maturities w'.e 100 refl are.e)
    (weight_bound remediation_levels w'.rl 100 refl are.rl))
    (weight_bound report_confidences w'.rc 100 refl are.rc) in
    let tenths : m ≤ n + 1 = omega (arith, ints, order) in
    let weights : k ≤ k' = mul-le-mul (mul-le-mul e rl) rc in
    let products : m * k ≤ (n + 1) * k' = mul-le-mul tenths weights in
    let high : m * k ≤ n * k' + 10 ^ 6 = omega (arith, products, small) in
    omega (arith, ints, high, is_r.least.below, is_s.not_below.at_most)

module _ (w w' : Weights) (are : AreOfTables w) (are' : AreOfTables w') where
  product_within : (minor : ℕ) → w.e ≤ w'.e → w.rl ≤ w'.rl → w.rc ≤ w'.rc → (m n r s : ℤ) → pos 0 ≤ℤ m → pos 0 ≤ℤ n
      → m ≤ℤ (n +ℤ pos (slack minor)) → IsRounded minor (temporal_number m w) r
      → IsRounded minor (temporal_number n w') s
      → r ≤ℤ (s +ℤ pos (slack minor))
  product_within zero e rl rc m n r s low low' order is_r is_s =
      product_within_one w w' are' e rl rc m n r s low low' order is_r is_s
  product_within (suc minor) e rl rc m n r s low low' order is_r is_s =
      let same = product_ordered w w' are are' (suc minor) e rl rc m n r s low (omega (arith, ints, order)) is_r is_s in
      omega (arith, ints, same)

first_from_zero : (minor : ℕ) (w : Weights) → AreOfTables w → (r : ℤ)
    → IsRounded minor (environmental_number minor w) r → pos 0 ≤ℤ r
first_from_zero minor w are r is_r =
    rounded_from_zero minor (environmental_number minor w) r (environmental_bottom minor w)
    (not_negative (modified_exponent minor) w.modified_changed _ _ _ _ (modified_parts w are)) is_r

module _ (minor : ℕ) (w w' : Weights) (are : AreOfTables w) (are' : AreOfTables w')
    (other : is_left_out minor w.modified_changed w'.modified_changed (units_of w).exploitability ≡ false) where
  pub counts_within : IsAtMost (environmental_weights w) (environmental_weights w') → (r s : ℤ)
      → IsEnvironmentalScore minor w r → IsEnvironmentalScore minor w' s → r ≤ℤ (s +ℤ pos (slack minor * 10 ^ 23))
  counts_within (e, (rl, (rc, (cr, (ir, (ar, (mav, (mac, (mpr, (mui, (ms, (mc, (mi, (ma, _)))))))))))))) r s is_r is_s =
      let m = is_r.is_number in
      let n = is_s.is_number in
      let access : 822 * w.mav ≤ 822 * w'.mav = omega (arith, mav) in
      let within = rounding_within minor w.modified_changed w'.modified_changed
      (scope_kept w.modified_changed w'.modified_changed ms)
      _ _ _ _ (modified_parts w are) _ _ _ _ (modified_parts w' are')
      (capped_ordered _ _ (units_ordered _ _ _ _ _ _ (weighted_ordered w.cr w.mc w'.cr w'.mc cr mc)
      (weighted_ordered w.ir w.mi w'.ir w'.mi ir mi) (weighted_ordered w.ar w.ma w'.ar w'.ma ar ma)))
      (mul-le-mul (mul-le-mul (mul-le-mul access mac) mpr) mui) other m.first n.first m.is_first n.is_first in
      let order = product_within w w' are are' minor e rl rc m.first n.first is_r.number is_s.number
      (first_from_zero minor w are m.first m.is_first) (first_from_zero minor w' are' n.first n.is_first) within
      m.is_rounded n.is_rounded in
      omega (arith, ints, order, is_r.is_count, is_s.is_count)

-- what is left out is neither in one scope
one_scope : (minor : ℕ) (b b' : Bool) (e : ℕ) → b ≡ b' → is_left_out minor b b' e ≡ false
one_scope zero b b' e same = refl
one_scope (suc minor) false false e same = refl
one_scope (suc minor) true b' e same = refl
one_scope (suc minor) false true e same = absurd (false≢true same)

-- nor with exploitability
some_exploitability : (minor : ℕ) (b b' : Bool) (e : ℕ) → eqb e 0 ≡ false → is_left_out minor b b' e ≡ false
some_exploitability zero b b' e some = refl
some_exploitability (suc minor) false true e some = some
some_exploitability (suc minor) false false e some = refl
some_exploitability (suc minor) true b' e some = refl

module _ (w w' : Weights) (are : AreOfTables w) (are' : AreOfTables w')
    (more : IsAtMost (environmental_weights w) (environmental_weights w')) where
  pub scores_within : (r s : ℤ) → IsEnvironmentalScore 0 w r → IsEnvironmentalScore 0 w' s → r ≤ℤ (s +ℤ pos (10 ^ 23))
  scores_within = counts_within 0 w w' are are' refl more

  in_order : (minor : ℕ) → is_left_out (suc minor) w.modified_changed w'.modified_changed (units_of w).exploitability
      ≡ false
      → AreInOrder (IsEnvironmentalScore (suc minor) w) (IsEnvironmentalScore (suc minor) w')
  in_order minor other r s is_r is_s =
      let within = counts_within (suc minor) w w' are are' other more r s is_r is_s in
      omega (arith, ints, within)

  pub one_scope_in_order : (minor : ℕ) → w.modified_changed ≡ w'.modified_changed
      → AreInOrder (IsEnvironmentalScore (suc minor) w) (IsEnvironmentalScore (suc minor) w')
  one_scope_in_order minor same = in_order minor (one_scope (suc minor) w.modified_changed w'.modified_changed _ same)

  pub exploitable_in_order : (minor : ℕ) → eqb (units_of w).exploitability 0 ≡ false
      → AreInOrder (IsEnvironmentalScore (suc minor) w) (IsEnvironmentalScore (suc minor) w')
  exploitable_in_order minor some =
      in_order minor (some_exploitability (suc minor) w.modified_changed w'.modified_changed _ some)

  -- with the scope unchanged the scores of any minor version are those of v3.1
  pub unchanged_in_order : (minor : ℕ) → w.modified_changed ≡ false → w'.modified_changed ≡ false
      → AreInOrder (IsEnvironmentalScore minor w) (IsEnvironmentalScore minor w')
  unchanged_in_order minor unchanged unchanged' r s is_r is_s =
      one_scope_in_order 0 (unchanged ∙ sym unchanged') r s
      (environmental_score_alike w are minor 1 unchanged r is_r)
      (environmental_score_alike w' are' minor 1 unchanged' s is_s)
