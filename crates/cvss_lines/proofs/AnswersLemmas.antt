-- One answer more: to whom, what is written, and how many are counted.
use Rattle.std.proofs.Common.{◌≡◌, ℕ, ◌+◌, ◌-◌, ◌^◌, Bool, true, false, cond, if◌then◌else◌, min, List, [], ◌∷◌, ◌++◌, refl, sym, ap, ◌∙◌, subst, append-nil, arith, count_by}
use Rattle.std.proofs.lemmas.List.Sums.{sum_by-append}
use Rattle.std.proofs.lemmas.Grind.{flat_map-append}
use Rattle.cvss_lines.specs.Answers.{Answer, IsAnswers, Rule, is_accepted, is_rejected, next_number, number_after, written_answer, written_answers}
use Rattle.cvss_lines.specs.Runs.{saturating_count, summary_of}
use Rattle.cvss_lines.specs.private.Steps.{Counts}
use Rattle.cvss_lines.specs.declared.summary.Summary.{Summary}

-- one line more has its answer
pub IsAnswers-push : (rule : Rule) (number : ℕ) (ls : List (List ℕ)) (xs : List Answer) (line : List ℕ) (x : Answer)
    → IsAnswers rule number ls xs → rule (number_after number ls) line x → IsAnswers rule number (ls ++ line ∷ []) (xs ++ x ∷ [])
IsAnswers-push rule number [] [] line x p q = (q, tt)
IsAnswers-push rule number [] (y ∷ xs) line x p q = absurd p
IsAnswers-push rule number (l ∷ ls) [] line x p q = absurd p
IsAnswers-push rule number (l ∷ ls) (y ∷ xs) line x p q = (p.0, IsAnswers-push rule (next_number number) ls xs line x p.1 q)

-- the number after one line more
pub number_after-push : (number : ℕ) (ls : List (List ℕ)) (line : List ℕ)
    → number_after number (ls ++ line ∷ []) ≡ next_number (number_after number ls)
number_after-push number [] line = refl
number_after-push number (l ∷ ls) line = number_after-push (next_number number) ls line

-- what is written for one answer more
pub written_answers-push : (xs : List Answer) (x : Answer) → written_answers (xs ++ x ∷ []) ≡ written_answers xs ++ written_answer x
written_answers-push xs x =
    flat_map-append written_answer xs (x ∷ []) ∙ ap (λ more. written_answers xs ++ more) (append-nil (written_answer x))

-- a count with one answer more
saturating_count-push : (test : Answer → Bool) (xs : List Answer) (x : Answer)
    → saturating_count test (xs ++ x ∷ []) ≡ (if test x then min (saturating_count test xs + 1) (2 ^ 64 - 1) else saturating_count test xs)
saturating_count-push test xs x = by_test (test x) (sum_by-append (λ y. cond (test y) 1 0) xs (x ∷ [])) where
  by_test : (b : Bool) → count_by test (xs ++ x ∷ []) ≡ count_by test xs + (0 + cond b 1 0)
      → saturating_count test (xs ++ x ∷ []) ≡ (if b then min (saturating_count test xs + 1) (2 ^ 64 - 1) else saturating_count test xs)
  by_test true sum = omega (arith, sum)
  by_test false sum = omega (arith, sum)

-- the counts with one answer more
pub summary_of-push : (old new : Summary) (xs : List Answer) (x : Answer) → old ≡ summary_of xs → Counts old x new
    → new ≡ summary_of (xs ++ x ∷ [])
summary_of-push old new xs x is counts =
    let one : Counts (summary_of xs) x new = subst (λ (s : Summary). Counts s x new) is counts in
    ap (λ n. record new { accepted = n }) (one.accepted ∙ sym (saturating_count-push is_accepted xs x))
    ∙ ap (λ n. record (summary_of (xs ++ x ∷ [])) { rejected = n }) (one.rejected ∙ sym (saturating_count-push is_rejected xs x))
