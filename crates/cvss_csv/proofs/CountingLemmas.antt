-- How many are accepted and rejected, counted one after another.
use Rattle.std.proofs.Common.{◌≡◌, ℕ, ◌+◌, ◌-◌, ◌^◌, Bool, true, false, not, cond, if◌then◌else◌, min, List, [], ◌∷◌, ◌++◌, None, Some, Option, refl, sym, ap, ◌∙◌, subst, append_assoc, append-nil, arith, count_by}
use Rattle.std.proofs.lemmas.List.Sums.{sum_by-append}
use Rattle.cvss_lines.specs.declared.summary.Summary.{Summary}
use Rattle.cvss_csv.specs.Answers.{counted_once}
use Rattle.cvss_csv.specs.Runs.{saturating_count, summary_by}
use Rattle.cvss_csv.specs.private.Counting.{Counts, CountsAll, is_rejected}

saturating_count-push : (test : Bool → Bool) (xs : List Bool) (x : Bool)
    → saturating_count test (xs ++ x ∷ []) ≡ (if test x then min (saturating_count test xs + 1) (2 ^ 64 - 1) else saturating_count test xs)
saturating_count-push test xs x = by_test (test x) (sum_by-append (λ (y : Bool). cond (test y) 1 0) xs (x ∷ [])) where
  by_test : (b : Bool) → count_by test (xs ++ x ∷ []) ≡ count_by test xs + (0 + cond b 1 0)
      → saturating_count test (xs ++ x ∷ []) ≡ (if b then min (saturating_count test xs + 1) (2 ^ 64 - 1) else saturating_count test xs)
  by_test true sum = omega (arith, sum)
  by_test false sum = omega (arith, sum)

-- one more
summary_by-push : (old new : Summary) (xs : List Bool) (x : Bool) → old ≡ summary_by xs → Counts old (Some x) new → new ≡ summary_by (xs ++ x ∷ [])
summary_by-push old new xs x is counts =
    let one : Counts (summary_by xs) (Some x) new = subst (λ (s : Summary). Counts s (Some x) new) is counts in
    ap (λ n. record new { accepted = n }) (one.accepted ∙ sym (saturating_count-push (λ accepted. accepted) xs x))
    ∙ ap (λ n. record (summary_by (xs ++ x ∷ [])) { rejected = n }) (one.rejected ∙ by_kind x ∙ sym (saturating_count-push (λ accepted. not accepted) xs x)) where
      rejected : ℕ
      rejected = saturating_count (λ accepted. not accepted) xs

      by_kind : (b : Bool) → (if is_rejected (Some b) then min (rejected + 1) (2 ^ 64 - 1) else rejected) ≡ (if not b then min (rejected + 1) (2 ^ 64 - 1) else rejected)
      by_kind true = refl
      by_kind false = refl

-- some more
pub summary_by-append : (old new : Summary) (xs ys : List Bool) → old ≡ summary_by xs → CountsAll old ys new → new ≡ summary_by (xs ++ ys)
summary_by-append old new xs [] is counts = counts ∙ is ∙ ap summary_by (sym (append-nil xs))
summary_by-append old new xs (y ∷ ys) is counts =
    summary_by-append counts.0 new (xs ++ y ∷ []) ys (summary_by-push old counts.0 xs y is counts.1) counts.2 ∙ ap summary_by (append_assoc xs (y ∷ []) ys)

-- what is counted at most once
pub CountsAll-once : (old new : Summary) (counted : Option Bool) → Counts old counted new → CountsAll old (counted_once counted) new
CountsAll-once old new None counts = ap (λ n. record new { accepted = n }) counts.accepted ∙ ap (λ n. record old { rejected = n }) counts.rejected
CountsAll-once old new (Some accepted) counts = (new, counts, refl)

pub CountsAll-push : (old middle new : Summary) (xs : List Bool) (x : Bool) → CountsAll old xs middle → Counts middle (Some x) new → CountsAll old (xs ++ x ∷ []) new
CountsAll-push old middle new [] x before one = (new, subst (λ s. Counts s (Some x) new) before one, refl)
CountsAll-push old middle new (first ∷ xs) x before one = (before.0, before.1, CountsAll-push before.0 middle new xs x before.2 one)
