-- What the whole numbers of the code say of the exact numbers of the equations.
use Rattle.std.specs.List.{Contains}
use Rattle.std.proofs.Common.{◌≡◌, ℕ, ◌*◌, ◌^◌, ◌+◌, ◌<◌, ◌≤◌, min, pos, ◌*ℤ◌, ◌/◌, ◌⊎◌, arith, refl, subst, sym, lit<, Bool}
use Rattle.std.proofs.lemmas.Int.{ints}
use borrow.Author.Differences.{up, down}
use Rattle.std.proofs.Math.Nat.{mul-le-mul, lt_of_mul-lt-mul_right, le_of_mul-le-mul_right}
use Rattle.cvss_base.specs.Exact.{Exact, ratio, ◌over◌, whole, ◌⊗◌, ◌≈◌, smaller}
use Rattle.cvss_base.proofs.ExactLemmas.{rests_are, rests_bound, equal_refl, equal_trans, difference_equal, product_equal, times_times}
use Rattle.cvss_score.proofs.v3_lemmas.CapLemmas.{by_smaller}
use Rattle.cvss_score.specs.declared.v3.weights.Weights.{Weights}
use Rattle.cvss_score.specs.v3.Scores.{hundredths, rest, sub_score_of, iss, miss, exploitability, modified_exploitability}
use Rattle.cvss_score.specs.v3.private.SubScores.{weighted_impacts, exploitabilities, IsSubScore}
use Rattle.cvss_score.specs.v3.private.Units.{millionths_of, base_parts as parts_of_base, modified_parts as parts_of_first, ArePossible}
use Rattle.cvss_score.specs.v3.Bounds.{impacts, requirements, AreOfTables}
use Rattle.cvss_score.proofs.v3_lemmas.SubScoreLemmas.{weight_bound, weighted_listed, weighted_whole, iss_listed, miss_listed, exploitability_listed}

-- a sub-score of weights in hundredths, in millionths
pub millionths_are : (c i a : ℕ) → c ≤ 100 → i ≤ 100 → a ≤ 100
    → millionths_of c i a over 1_000_000 ≈ sub_score_of (hundredths c) (hundredths i) (hundredths a)
millionths_are c i a small_c small_i small_a =
    let rests = rests_are 100 c i a small_c small_i small_a in
    record { equal = omega (arith, ints, rests, rests_bound 100 c i a) }

-- the product of four weights
pub four_bound : (av ac pr ui : ℕ) → av ≤ 100 → ac ≤ 100 → pr ≤ 100 → ui ≤ 100 → 822 * av * ac * pr * ui ≤ 822 * 10 ^ 8
four_bound av ac pr ui small_av small_ac small_pr small_ui =
    let one : 822 * av ≤ 82_200 = omega arith in
    mul-le-mul (mul-le-mul (mul-le-mul one small_ac) small_pr) small_ui

-- the cap of MISS, in millionths
pub capped_millionths : (n : ℕ) (x : Exact) → 0 < x.bottom → n over 1_000_000 ≈ x
    → min n 915_000 over 1_000_000 ≈ smaller x (915 over 1000)
capped_millionths n x some is_x =
    let scaled : n * x.bottom + 1_000_000 * down x.top ≡ 1_000_000 * up x.top = omega (arith, ints, is_x.equal) in
    by_smaller (λ z. min n 915_000 over 1_000_000 ≈ z) x.top x.bottom 915 1000
    (λ above. let product : 915_000 * x.bottom < n * x.bottom = omega arith in
    let high : 915_000 < n = lt_of_mul-lt-mul_right x.bottom product in
    let is_min : min n 915_000 ≡ 915_000 = omega arith in
    subst (λ m. m over 1_000_000 ≈ ratio (pos 915 *ℤ pos x.bottom) (x.bottom * 1000)) (sym is_min)
    (record { equal = omega (arith, ints) }))
    (λ below. let product : n * x.bottom ≤ 915_000 * x.bottom = omega arith in
    let low : n ≤ 915_000 = le_of_mul-le-mul_right product some in
    let is_min : min n 915_000 ≡ n = omega arith in
    subst (λ m. m over 1_000_000 ≈ ratio (x.top *ℤ pos 1000) (x.bottom * 1000)) (sym is_min)
    (record { equal = omega (arith, ints, is_x.equal, times_times x.top (pos 1000) 1_000_000) }))

rest_equal : {x y : Exact} → x ≈ y → rest x ≈ rest y
rest_equal same = difference_equal (equal_refl (whole 1)) same

-- equal impacts have equal sub-scores
sub_score_equal : {c c' i i' a a' : Exact} → c ≈ c' → i ≈ i' → a ≈ a' → sub_score_of c i a ≈ sub_score_of c' i' a'
sub_score_equal same_c same_i same_a =
    rest_equal (product_equal (product_equal (rest_equal same_c) (rest_equal same_i)) (rest_equal same_a))

-- an impact times its requirement
record IsWeighted (requirement impact : ℕ) : Type 0 where
  listed : Contains weighted_impacts (requirement * impact / 100)
  bound : requirement * impact / 100 ≤ 100
  exact : hundredths (requirement * impact / 100) ≈ hundredths requirement ⊗ hundredths impact

weighted : (requirement impact : ℕ) → Contains requirements requirement → Contains impacts impact → IsWeighted requirement impact
weighted requirement impact is_requirement is_impact =
    let listed = weighted_listed requirement impact is_requirement is_impact in
    let whole = weighted_whole requirement impact is_requirement is_impact in
    record { listed = listed; bound = weight_bound weighted_impacts _ 100 refl listed; exact = record { equal = omega (arith, ints, whole) } }

-- of a sub-score s in millionths and an exploitability e in 10^-10, which are those of the equations
pub record AreParts (changed : Bool) (s : ℕ) (S : Exact) (e : ℕ) (E : Exact) : Type 0 where
  pub is_S : s over 1_000_000 ≈ S
  pub is_E : e over (10 ^ 10) ≈ E
  pub some_S : 0 < S.bottom
  pub some_E : 0 < E.bottom
  pub sub_score : (s ≡ 0) ⊎ IsSubScore s
  pub listed : Contains (exploitabilities changed) e

module _ (w : Weights) (are : AreOfTables w) where
  pub base_parts : AreParts w.changed (parts_of_base w).sub_score (iss w) (parts_of_base w).exploitability (exploitability w)
  base_parts = record {
    is_S = millionths_are w.c w.i w.a (weight_bound impacts w.c 100 refl are.c) (weight_bound impacts w.i 100 refl are.i) (weight_bound impacts w.a 100 refl are.a);
    is_E = equal_refl (exploitability w);
    some_S = lit< tt;
    some_E = lit< tt;
    sub_score = iss_listed w.c w.i w.a are.c are.i are.a;
    listed = exploitability_listed w.changed w.av w.ac w.pr w.ui are.av are.ac are.pr are.ui;
  }

  pub modified_parts : AreParts w.modified_changed (parts_of_first w).sub_score (miss w) (parts_of_first w).exploitability (modified_exploitability w)
  modified_parts =
      let c = weighted w.cr w.mc are.cr are.mc in
      let i = weighted w.ir w.mi are.ir are.mi in
      let a = weighted w.ar w.ma are.ar are.ma in
      let exact = millionths_are _ _ _ c.bound i.bound a.bound in
      record {
        is_S = capped_millionths _ _ (lit< tt) (equal_trans (lit< tt) exact (sub_score_equal c.exact i.exact a.exact));
        is_E = equal_refl (modified_exploitability w);
        some_S = lit< tt;
        some_E = lit< tt;
        sub_score = miss_listed _ _ _ c.listed i.listed a.listed;
        listed = exploitability_listed w.modified_changed w.mav w.mac w.mpr w.mui are.mav are.mac are.mpr are.mui;
      }

-- such parts are possible
pub possible : {changed : Bool} {s e : ℕ} {S E : Exact} → AreParts changed s S e E → ArePossible (record { sub_score = s; exploitability = e; changed = changed })
possible parts = record { sub_score = parts.sub_score; listed = parts.listed }
