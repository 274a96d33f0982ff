-- The roundings of v3.0 and v3.1 give the same tenths of the numbers of the equations.
use Rattle.std.specs.List.{list_all}
use Rattle.std.proofs.Common.{◌≡◌, ℕ, zero, suc, ◌+◌, ◌*◌, ◌/◌, ◌^◌, ◌<◌, ◌≤◌, ℤ, pos, Bool, true, false, eqb, inl, inr, arith, refl, subst, sym, lit<}
use Rattle.std.proofs.lemmas.Int.{ints}
use Rattle.std.proofs.lemmas.Bool.{eqb-true, false≢true}
use Rattle.cvss_base.specs.Exact.{Exact, ◌over◌, whole, ◌⊑◌, ◌≈◌}
use Rattle.cvss_base.proofs.ExactLemmas.{at_most_trans, equal_trans}
use Rattle.cvss_base.proofs.TestLemmas.{passes_two, passes_three, all_below, below_passes}
use Rattle.cvss_score.specs.v3.Bounds.{AreOfTables, exploit_code_maturities, remediation_levels, report_confidences}
use Rattle.cvss_score.specs.v3.Scores.{power, changed_impact, base_number, environmental_number, miss, modified_exploitability, modified_exponent, temporal_number, IsRounded, IsBaseScore, IsTemporalScore, IsEnvironmentalScore}
use Rattle.cvss_score.specs.declared.v3.rules.Exponent.{Exponent}
use Rattle.cvss_score.specs.declared.v3.rules.Exponent.TheVariants.{Fifteen}
use Rattle.cvss_score.specs.declared.v3.weights.Weights.{Weights}
use Rattle.cvss_score.specs.v3.private.SubScores.{sub_scores, exploitabilities}
use Rattle.cvss_score.proofs.v3_lemmas.CountLemmas.{AreParts, base_parts, modified_parts}
use Rattle.cvss_score.proofs.v3_lemmas.EqualLemmas.{base_bottom, environmental_bottom, rounded_once, rounds_equal}
use Rattle.cvss_score.proofs.v3_lemmas.NumberLemmas.{number_of, own_number, own_bottom, bottom, equal, own_rounded, none_equal}
use Rattle.cvss_score.proofs.v3_lemmas.RoundLemmas.{between_jumps}
use Rattle.cvss_score.proofs.v3_lemmas.SettledLemmas.{tenth_above, jump_above}
use Rattle.cvss_laws.proofs.v3.NumberLemmas.{ordered, tenths_rounded, number_to_ten}

-- one number of tenths, from 0 to 10, is the rounding of x by both
pub record IsAlike (x : Exact) : Type 0 where
  pub tenths : ℕ
  pub by_v30 : IsRounded 0 x (pos tenths)
  pub by_v31 : IsRounded 1 x (pos tenths)

pub equal_alike : (x y : Exact) → 0 < x.bottom → 0 < y.bottom → x ≈ y → IsAlike x → IsAlike y
equal_alike x y some_x some_y same is = record {
  tenths = is.tenths;
  by_v30 = rounds_equal 0 some_x some_y same (pos is.tenths) is.by_v30;
  by_v31 = rounds_equal 1 some_x some_y same (pos is.tenths) is.by_v31;
}

-- whether a number has one rounding, with each exploitability
unfoldable is_alike : Exponent → Bool → ℕ → ℕ → Bool
is_alike exponent changed s e =
    eqb (tenth_above (own_number exponent changed s e)) (jump_above (own_number exponent changed s e))

all_alike : (changed : Bool) → list_all
    (λ s. list_all (is_alike Fifteen changed s) (exploitabilities changed)) sub_scores ≡ true
unfolding is_alike tenth_above jump_above power changed_impact
all_alike false = refl
all_alike true = refl

module _ (changed : Bool) (s : ℕ) (S : Exact) (e : ℕ) (E : Exact) (parts : AreParts changed s S e E) where
  number_alike : IsAlike (number_of Fifteen changed S E)
  unfolding is_alike
  number_alike = elim parts.sub_score as (λ _. IsAlike (number_of Fifteen changed S E)) [
    | inl is_zero ↦
        equal_alike (0 over 10) _ (lit< tt) (bottom Fifteen changed s S e E parts)
        (equal_trans (lit< tt) (record { equal = refl }) (none_equal Fifteen changed s S e E parts is_zero))
        (record { tenths = 0; by_v30 = tenths_rounded 0 0; by_v31 = tenths_rounded 1 0 })
    | inr sub_score ↦
        let n = own_number Fifteen changed s e in
        let one = eqb-true (tenth_above n) (jump_above n)
        (passes_two (is_alike Fifteen changed) sub_scores (exploitabilities changed) s e (all_alike changed)
        sub_score.listed parts.listed) in
        equal_alike n _ (own_bottom Fifteen changed s S e E parts) (bottom Fifteen changed s S e E parts)
        (equal Fifteen changed s S e E parts) (record {
          tenths = tenth_above n;
          by_v30 = own_rounded Fifteen changed s S e E parts sub_score 0;
          by_v31 = subst (λ (k : ℕ). IsRounded 1 n (pos k)) (sym one)
              (own_rounded Fifteen changed s S e E parts sub_score 1);
        })
  ]

-- the roundings of so many 10^-7
abbrev by_v30 : ℕ → ℕ
by_v30 k = (k + 999_999) / 1_000_000

abbrev by_v31 : ℕ → ℕ
by_v31 k = (k + 999_950) / 1_000_000

products_alike : list_all
    (λ e. list_all (λ rl. list_all (λ rc. all_below (λ t. eqb (by_v30 (t * e * rl * rc)) (by_v31 (t * e * rl * rc)))
    101)
    report_confidences) remediation_levels) exploit_code_maturities ≡ true
unfolding all_below
products_alike = refl

product_alike_if : (k : ℕ) → by_v30 k ≡ by_v31 k → IsAlike (k over (10 ^ 7))
product_alike_if k same = record {
  tenths = by_v30 k;
  by_v30 =
      record { not_below = record { at_most = omega (arith, ints) }; least = record { below = omega (arith, ints) } };
  by_v31 = subst (λ (n : ℕ). IsRounded 1 (k over (10 ^ 7)) (pos n)) (sym same)
      (between_jumps k (10 ^ 7) (by_v31 k) (lit< tt) (record { at_most = omega (arith, ints) })
      (record { below = omega (arith, ints) }));
}

-- tenths from 0 to 10, times E, RL and RC
product_alike : (w : Weights) → AreOfTables w → (t : ℕ) → t ≤ 100 → IsAlike (temporal_number (pos t) w)
product_alike w are t to_ten =
    let k = t * w.e * w.rl * w.rc in
    let test : ℕ → ℕ → ℕ → ℕ → Bool = λ e rl rc t. eqb (by_v30 (t * e * rl * rc)) (by_v31 (t * e * rl * rc)) in
    product_alike_if k (eqb-true (by_v30 k) (by_v31 k) (below_passes (test w.e w.rl w.rc) 101 t
    (passes_three (λ e rl rc. all_below (test e rl rc) 101) exploit_code_maturities remediation_levels
    report_confidences
    w.e w.rl w.rc products_alike are.e are.rl are.rc) (omega arith)))

-- a number that both round alike
alike_is : (minor : ℕ) (x : Exact) → (is : IsAlike x) → IsRounded minor x (pos is.tenths)
alike_is zero x is = is.by_v30
alike_is (suc minor) x is = is.by_v31

-- its rounding by one minor version is that by any other
rounded_alike : (minor other : ℕ) (x : Exact) (r : ℤ) → 0 < x.bottom → IsAlike x → IsRounded minor x r
    → IsRounded other x r
rounded_alike minor other x r some is is_r =
    subst (λ (z : ℤ). IsRounded other x z) (rounded_once minor x (pos is.tenths) r some (alike_is minor x is) is_r)
    (alike_is other x is)

-- so many tenths, from 0 to 10
record IsInScale (r : ℤ) : Type 0 where
  n : ℕ
  is : r ≡ pos n
  to_ten : n ≤ 100

in_scale : (minor : ℕ) (x : Exact) (r : ℤ) → 0 < x.bottom → x ⊑ whole 10 → IsAlike x → IsRounded minor x r → IsInScale r
in_scale minor x r some to_ten is is_r =
    let ten : whole 10 ⊑ 100 over 10 = record { at_most = omega (arith, ints) } in
    let high = ordered minor x (100 over 10) r (pos 100) some (lit< tt)
    (at_most_trans x (whole 10) (100 over 10) (lit< tt) to_ten ten) is_r (tenths_rounded minor 100) in
    let same = rounded_once minor x r (pos is.tenths) some is_r (alike_is minor x is) in
    record { n = is.tenths; is = same; to_ten = omega (arith, ints, high, same) }

-- the two roundings of a score, the first of a number x
twice_alike : (w : Weights) → AreOfTables w → (minor other : ℕ) (x : Exact) (m r : ℤ) → 0 < x.bottom → x ⊑ whole 10
    → IsAlike x
    → IsRounded minor x m → IsRounded minor (temporal_number m w) r
    → IsRounded other x m × IsRounded other (temporal_number m w) r
twice_alike w are minor other x m r some to_ten is is_m is_r =
    let scale = in_scale minor x m some to_ten is is_m in
    let product = subst (λ (z : ℤ). IsAlike (temporal_number z w)) (sym scale.is)
    (product_alike w are scale.n scale.to_ten) in (
      rounded_alike minor other x m some is is_m,
      rounded_alike minor other (temporal_number m w) r (lit< tt) product
          is_r,
    )

-- with the scope unchanged the exponent does not matter
same_unchanged : (exponent other : Exponent) (b : Bool) (S E : Exact) → b ≡ false
    → number_of exponent b S E ≡ number_of other b S E
same_unchanged exponent other false S E is = refl
same_unchanged exponent other true S E is = absurd (false≢true (sym is))

-- the scores of one minor version are those of any other
module _ (w : Weights) (are : AreOfTables w) (minor other : ℕ) where
  base_alike : IsAlike (base_number w)
  base_alike = number_alike w.changed _ _ _ _ (base_parts w are)

  pub base_score_alike : (count : ℤ) → IsBaseScore minor w count → IsBaseScore other w count
  base_score_alike count is = record {
    number = is.number;
    is_number = rounded_alike minor other (base_number w) is.number (base_bottom w) base_alike is.is_number;
    is_count = is.is_count;
  }

  pub temporal_score_alike : (count : ℤ) → IsTemporalScore minor w count → IsTemporalScore other w count
  temporal_score_alike count is =
      let t = is.is_number in
      let both = twice_alike w are minor other (base_number w) t.base is.number (base_bottom w)
      (number_to_ten Fifteen w.changed _ _)
      base_alike t.is_base t.is_rounded in
      record {
        number = is.number;
        is_number = record { base = t.base; is_base = both.0; is_rounded = both.1 };
        is_count = is.is_count;
      }

  pub environmental_score_alike : w.modified_changed ≡ false → (count : ℤ) → IsEnvironmentalScore minor w count
      → IsEnvironmentalScore other w count
  environmental_score_alike unchanged count is =
      let same = λ (from to : ℕ). same_unchanged (modified_exponent from) (modified_exponent to) w.modified_changed
      (miss w) (modified_exploitability w) unchanged in
      let alike = subst (λ (x : Exact). IsAlike x) (same 0 minor)
      (number_alike w.modified_changed _ _ _ _ (modified_parts w are)) in
      let t = is.is_number in
      let both = twice_alike w are minor other (environmental_number minor w) t.first is.number
      (environmental_bottom minor w)
      (number_to_ten (modified_exponent minor) w.modified_changed _ _) alike t.is_first t.is_rounded in
      record {
        number = is.number;
        is_number = record {
          first = t.first;
          is_first = subst (λ (x : Exact). IsRounded other x t.first) (same minor other) both.0;
          is_rounded = both.1;
        };
        is_count = is.is_count;
      }
