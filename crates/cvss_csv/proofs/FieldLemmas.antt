-- The field with an index, as it comes nearer.
use Rattle.std.proofs.Common.{◌≡◌, ◌≢◌, ℕ, zero, suc, ◌-◌, List, [], ◌∷◌, arith, ap, drop, refl, sym, take, ◌∙◌}

module _ (left : ℕ) (all : List (List ℕ)) (target : List (List ℕ)) (before : take 1 (drop left all) ≡ target) where
  -- it is the next
  pub field_here : (field : List ℕ) (more : List (List ℕ)) → all ≡ field ∷ more → left ≡ 0 → target ≡ field ∷ []
  field_here field more is here = sym before ∙ ap (λ n. take 1 (drop n all)) here ∙ ap (take 1) is

  -- it is not
  pub field_later : (field : List ℕ) (more : List (List ℕ)) → all ≡ field ∷ more → left ≢ 0 → take 1 (drop (left - 1) more) ≡ target
  field_later field more is later =
      let one_more : suc (left - 1) ≡ left = omega (arith, later) in
      ap (λ n. take 1 (drop n (field ∷ more))) one_more ∙ ap (λ ls. take 1 (drop left ls)) (sym is) ∙ before

  -- there is none
  pub field_none : all ≡ [] → target ≡ []
  field_none none = sym before ∙ ap (λ ls. take 1 (drop left ls)) none ∙ nothing left where
    nothing : (n : ℕ) → take 1 (drop {A = List ℕ} n []) ≡ []
    nothing zero = refl
    nothing (suc n) = refl
