-- The first item of a list that passes a test, by its place.
use Rattle.std.proofs.Common.{◌≡◌, ℕ, ◌<◌, Bool, true, false, List, length, get_or, Some, None, find, slice_get, inl, inr, sym, ◌∙◌, subst, arith}
use Rattle.std.specs.List.{position_or_len}
use Rattle.std.proofs.lemmas.Bool.{cases_lt}
use Rattle.std.proofs.lemmas.List.Folds.{find_at}
use Rattle.std.proofs.lemmas.List.Sums.{fails_before_first, passes_at_first}
use Rattle.std.proofs.lemmas.Option.{get_or_from_slice_get, none-some, slice_get-get_or, slice_get_within}

-- an item that passes a test, and none before it does
pub record IsFirstPassing {K : Type 0} (test : K → Bool) (items : List K) (item : K) : Type 0 where
  pub place : ℕ
  pub is : slice_get items place ≡ Some item
  pub passes : test item ≡ true
  pub earlier : (before : ℕ) (other : K) → before < place → slice_get items before ≡ Some other → test other ≡ false

module _ {K : Type 0} (test : K → Bool) (items : List K) where
  pub found_first : (found : K) → find test items ≡ Some found → IsFirstPassing test items found
  found_first found is =
      let place = position_or_len test items in
      let here = sym (find_at test items) ∙ is in
      record {
        place = place;
        is = here;
        passes = subst (λ x. test x ≡ true) (get_or_from_slice_get items place found found here) (passes_at_first test items found (slice_get_within items place found here));
        earlier = λ before other below at. subst (λ x. test x ≡ false) (get_or_from_slice_get items before other other at) (fails_before_first test items before other below);
      }

  pub not_found : (place : ℕ) (default : K) → find test items ≡ None → place < length items → test (get_or items place default) ≡ false
  not_found place default none within = elim (cases_lt place (position_or_len test items)) [
    | inl before ↦ fails_before_first test items place default before
    | inr past ↦ absurd (none-some _ (sym none ∙ (find_at test items ∙ slice_get-get_or items _ default (omega arith))))
  ]

  pub found_passes : (found : K) → find test items ≡ Some found → test found ≡ true
  found_passes found is = (found_first found is).passes
