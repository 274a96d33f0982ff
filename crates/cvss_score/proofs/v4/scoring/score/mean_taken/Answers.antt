use Rattle.std.proofs.Common.{◌≡◌, ℕ, ◌+◌, ◌*◌, arith, ◌∙◌}
use Rattle.cvss_base.proofs.ExactLemmas.{equal_sym}
use Rattle.cvss_score.proofs.v4_lemmas.ScoreLemmas.{mean_count, mean_of, mean_left, mean_found}
use Rattle.cvss_score.proofs.v4.scoring.score.mean_taken.Goals as goal

-- equal parts have equal sums
five_parts : (a b c d e a' b' c' d' e' : ℕ) → a ≡ a' → b ≡ b' → c ≡ c' → d ≡ d' → e ≡ e'
    → a + b + c + d + e ≡ a' + (b' + (c' + (d' + (e' + 0))))
five_parts a b c d e a' b' c' d' e' is_a is_b is_c is_d is_e = omega arith

found : (c : goal.After-sixty_by)
    → (c.share-eq1.result.taken + c.share-eq2.result.taken + c.share-eq3_eq6.result.taken + c.share-eq4.result.taken + c.share-eq5.result.taken) * c.sixty_by.result
    ≡ mean_count c.args.values.now.effective
found c =
    let v = c.args.values.now in
    let taken = five_parts _ _ _ _ _ _ _ _ _ _ (c.share-eq1.ensures.taken ∙ c.eq1_terms.ensures.taken)
    (c.share-eq2.ensures.taken ∙ c.eq2_terms.ensures.taken) (c.share-eq3_eq6.ensures.taken ∙ c.eq3_eq6_terms.ensures.taken)
    (c.share-eq4.ensures.taken ∙ c.eq4_terms.ensures.taken) (c.share-eq5.ensures.taken ∙ c.eq5_terms.ensures.taken) in
    let counted = five_parts _ _ _ _ _ _ _ _ _ _ (c.share-eq1.ensures.counted ∙ c.eq1_terms.ensures.counted)
    (c.share-eq2.ensures.counted ∙ c.eq2_terms.ensures.counted) (c.share-eq3_eq6.ensures.counted ∙ c.eq3_eq6_terms.ensures.counted)
    (c.share-eq4.ensures.counted ∙ c.eq4_terms.ensures.counted) (c.share-eq5.ensures.counted ∙ c.eq5_terms.ensures.counted) in
    rw c.sixty_by.ensures (mean_found v.effective v.value _ _ v.listed taken counted)

pub returns-clause-value : goal.returns-clause-value
returns-clause-value c = rw (found c) (equal_sym (mean_of c.args.values.now.effective).0)

pub overflow_mul-result : goal.overflow_mul-result
overflow_mul-result c =
    let v = c.args.values.now in
    omega (arith, found c, mean_left v.effective v.value v.listed, v.listed.to_hundred)

pub returns-clause-bound : goal.returns-clause-bound
returns-clause-bound c = let v = c.args.values.now in rw (found c) (mean_left v.effective v.value v.listed)
