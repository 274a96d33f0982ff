-- The number of the code stands for the first number of the equations, which is certain where there is impact.
use Rattle.std.proofs.Common.{◌≡◌, ℕ, ◌^◌, ◌<◌, ℤ, pos, negsuc, Bool, true, false, if◌then◌else◌, inl, inr, arith, refl, subst, lit<}
use Rattle.std.proofs.lemmas.Int.{ints}
use Rattle.cvss_base.specs.Exact.{Exact, ratio, ◌over◌, whole, ◌⊕◌, ◌⊖◌, ◌≈◌, ◌⊏◌, ◌⊑◌}
use Rattle.cvss_base.proofs.ExactLemmas.{equal_refl, equal_sym, equal_at_most, at_most_trans, below_at_most, sum_equal, difference_equal, equal_trans}
use Rattle.cvss_base.proofs.TestLemmas.{at_most_if}
use Rattle.cvss_score.proofs.v3_lemmas.CapLemmas.{not_below_cap}
use Rattle.cvss_score.proofs.v3_lemmas.CountLemmas.{AreParts, base_parts, modified_parts}
use Rattle.cvss_score.proofs.v3_lemmas.EqualLemmas.{impact_equal, impact_bottom, first_equal, first_bottom, rounds_equal, rounded_once}
use Rattle.cvss_score.proofs.v3_lemmas.NearLemmas.{still_approximates, equal_stands, number_stands}
use Rattle.cvss_score.proofs.v3_lemmas.SettledLemmas.{error, is_near, near_if, IsSettled, settled_tenths, settled_rounding, settles}
use Rattle.cvss_score.specs.v3.Certainty.{IsCertain}
use Rattle.cvss_score.specs.v3.Scores.{power, unchanged_impact, changed_impact, changed_modified_impact, impact, modified_impact, impact_by, first_number, base_number, environmental_number, modified_exponent, IsRounded}
use Rattle.cvss_score.specs.declared.v3.rules.Exponent.{Exponent}
use Rattle.cvss_score.specs.declared.v3.rules.Exponent.TheVariants.{Fifteen, Thirteen}
use Rattle.cvss_score.specs.declared.v3.weights.Weights.{Weights}
use Rattle.cvss_score.specs.v3.private.Near.{Approximates, StandsFor}
use Rattle.cvss_score.specs.v3.private.SubScores.{IsSubScore}
use Rattle.cvss_score.specs.v3.private.Units.{impact_units, total_units, IsImpact, IsNumber}
use Rattle.cvss_score.specs.v3.Bounds.{AreOfTables}

-- the first number by the exponent of its impact, of a sub-score and an exploitability, and that of the parts of the code
abbrev pub number_of : Exponent → Bool → Exact → Exact → Exact
number_of exponent changed S E = first_number changed (impact_by exponent changed S) E

abbrev pub own_number : Exponent → Bool → ℕ → ℕ → Exact
own_number exponent changed s e = number_of exponent changed (s over 1_000_000) (e over (10 ^ 10))

number_bottom : (exponent : Exponent) (changed : Bool) (S E : Exact) → 0 < S.bottom → 0 < E.bottom → 0 < (number_of exponent changed S E).bottom
number_bottom exponent changed S E some_S some_E =
    first_bottom changed (impact_by exponent changed S) E (impact_bottom exponent changed S some_S) some_E

-- equal parts have equal numbers
number_equal : (exponent : Exponent) (changed : Bool) {s S e E : Exact} → 0 < s.bottom → 0 < S.bottom → 0 < e.bottom → 0 < E.bottom
    → s ≈ S → e ≈ E → number_of exponent changed s e ≈ number_of exponent changed S E
number_equal exponent changed {s} {S} some_s some_S some_e some_E same_S same_E =
    first_equal changed (impact_bottom exponent changed s some_s) (impact_bottom exponent changed S some_S) some_e some_E
    (impact_equal exponent changed same_S) same_E

-- the impacts of no sub-score
none_impact : (exponent : Exponent) (changed : Bool) → impact_by exponent changed (0 over 1_000_000) ⊑ whole 0
unfolding power changed_impact changed_modified_impact
none_impact exponent false = at_most_if _ (whole 0) refl
none_impact Fifteen true = at_most_if (changed_impact (0 over 1_000_000)) (whole 0) refl
none_impact Thirteen true = at_most_if (changed_modified_impact (0 over 1_000_000)) (whole 0) refl

-- what the code gives for them is close
none_close : (exponent : Exponent) (changed : Bool)
    → Approximates changed (ratio (if changed then negsuc 21_807_999_999 else pos 0) (10 ^ 11)) (impact_by exponent changed (0 over 1_000_000))
unfolding is_near power changed_impact changed_modified_impact
none_close exponent false = near_if false (0 over (10 ^ 11)) (unchanged_impact (0 over 1_000_000)) refl
none_close Fifteen true = near_if true (ratio (negsuc 21_807_999_999) (10 ^ 11)) (changed_impact (0 over 1_000_000)) refl
none_close Thirteen true = near_if true (ratio (negsuc 21_807_999_999) (10 ^ 11)) (changed_modified_impact (0 over 1_000_000)) refl

-- and their first number
none_number : (exponent : Exponent) (changed : Bool) (E : Exact) → number_of exponent changed (0 over 1_000_000) E ≡ whole 0
unfolding power changed_impact changed_modified_impact
none_number exponent false E = refl
none_number Fifteen true E = refl
none_number Thirteen true E = refl

-- the first number of the equations equals that of the listed parts
module _ (exponent : Exponent) (changed : Bool) (s : ℕ) (S : Exact) (e : ℕ) (E : Exact) (parts : AreParts changed s S e E) where
  pub own_bottom : 0 < (own_number exponent changed s e).bottom
  own_bottom = number_bottom exponent changed (s over 1_000_000) (e over (10 ^ 10)) (lit< tt) (lit< tt)

  pub bottom : 0 < (number_of exponent changed S E).bottom
  bottom = number_bottom exponent changed S E parts.some_S parts.some_E

  pub equal : own_number exponent changed s e ≈ number_of exponent changed S E
  equal = number_equal exponent changed (lit< tt) parts.some_S (lit< tt) parts.some_E parts.is_S parts.is_E

  -- what equals the code's impact approximates that of the equations
  pub approximates : (n : ℤ) {x : Exact} → x ≈ ratio n (10 ^ 11) → IsImpact exponent (record { sub_score = s; exploitability = e; changed = changed }) n
      → Approximates changed x (impact_by exponent changed S)
  approximates n same is =
      still_approximates changed (lit< tt) (impact_bottom exponent changed (s over 1_000_000) (lit< tt)) same (impact_equal exponent changed parts.is_S)
      (elim parts.sub_score as (λ _. Approximates changed (ratio n (10 ^ 11)) (impact_by exponent changed (s over 1_000_000))) [
        | inl is_zero ↦ rw (is.none is_zero, is_zero) (none_close exponent changed)
        | inr sub_score ↦ rw (is.some sub_score) (settles exponent changed s sub_score).near
      ])

  -- of a settled one
  module _ (sub_score : IsSubScore s) where
    pub settled : IsSettled changed (own_number exponent changed s e) (total_units changed (impact_units exponent changed s) e over (10 ^ 13))
    settled = (settles exponent changed s sub_score).number e parts.listed

    pub own_rounded : (minor : ℕ) → IsRounded minor (own_number exponent changed s e) (settled_tenths minor (own_number exponent changed s e))
    own_rounded minor =
        let n = own_number exponent changed s e in
        settled_rounding minor n n.top n.bottom settled.at own_bottom own_bottom settled.itself

    some_certain : (minor : ℕ) → IsCertain minor (number_of exponent changed S E)
    some_certain minor =
        let n = own_number exponent changed s e in
        let m = number_of exponent changed S E in
        record {
          rounding = settled_tenths minor n;
          is_rounding = rounds_equal minor own_bottom bottom equal _ (own_rounded minor);
          same_rounding = λ x some_x low high to_ten.
              let lower = equal_at_most (n ⊖ error) (m ⊖ error) (difference_equal equal (equal_refl error)) in
              let higher = equal_at_most (m ⊕ error) (n ⊕ error) (sum_equal (equal_sym equal) (equal_refl error)) in
              settled_rounding minor n x.top x.bottom settled.at own_bottom some_x (record {
                low = at_most_trans (n ⊖ error) (m ⊖ error) x (omega (arith, bottom)) lower low;
                high = not_below_cap x (n ⊕ error) (at_most_trans x (m ⊕ error) (n ⊕ error) (omega (arith, bottom)) high higher) to_ten;
              });
        }

  -- without impact the number is 0
  pub none_equal : s ≡ 0 → whole 0 ≈ number_of exponent changed S E
  none_equal is_zero = rw (none_number exponent changed (e over (10 ^ 10))) at (rw is_zero at equal)

  -- and what it gives for the number stands for it
  pub stands : (minor n : ℕ) → IsNumber exponent (record { sub_score = s; exploitability = e; changed = changed }) n
      → StandsFor minor changed (n over (10 ^ 13)) (number_of exponent changed S E)
  stands minor n is = elim parts.sub_score as (λ _. StandsFor minor changed (n over (10 ^ 13)) (number_of exponent changed S E)) [
    | inl is_zero ↦ rw (is.none is_zero)
        (equal_stands minor changed (lit< tt) bottom (equal_trans (lit< tt) (record { equal = refl }) (none_equal is_zero)))
    | inr sub_score ↦
        let x = total_units changed (impact_units exponent changed s) e over (10 ^ 13) in
        let m = own_number exponent changed s e in
        let rounded = settled_rounding minor m x.top x.bottom (settled sub_score).at own_bottom (lit< tt) (settled sub_score).within in
        rw (is.some sub_score) (number_stands minor changed (lit< tt) own_bottom bottom equal (record {
          rounds = λ r is_r. subst (λ z. IsRounded minor m z) (rounded_once minor x (settled_tenths minor m) r (lit< tt) rounded is_r) (own_rounded sub_score minor);
          near = (settled sub_score).near;
        }))
  ]

  pub certain : (minor : ℕ) → whole 0 ⊏ impact_by exponent changed S → IsCertain minor (number_of exponent changed S E)
  certain minor above = elim parts.sub_score as (λ _. IsCertain minor (number_of exponent changed S E)) [
    | inl is_zero ↦
        let impact = impact_by exponent changed S in
        let own = impact_by exponent changed (0 over 1_000_000) in
        let same = equal_sym (impact_equal exponent changed (rw is_zero at parts.is_S)) in
        let low = at_most_trans impact own (whole 0) (impact_bottom exponent changed (0 over 1_000_000) (lit< tt))
        (equal_at_most impact own same) (none_impact exponent changed) in
        let below = below_at_most (whole 0) impact (whole 0) (lit< tt) above low in
        absurd (omega (arith, ints, below.below))
    | inr sub_score ↦ some_certain sub_score minor
  ]

-- so it is of weights
pub base_certain : (minor : ℕ) (w : Weights) → AreOfTables w → whole 0 ⊏ impact w → IsCertain minor (base_number w)
base_certain minor w are = certain Fifteen w.changed _ _ _ _ (base_parts w are) minor

pub environmental_certain : (minor : ℕ) (w : Weights) → AreOfTables w → whole 0 ⊏ modified_impact minor w → IsCertain minor (environmental_number minor w)
environmental_certain minor w are = certain (modified_exponent minor) w.modified_changed _ _ _ _ (modified_parts w are) minor
