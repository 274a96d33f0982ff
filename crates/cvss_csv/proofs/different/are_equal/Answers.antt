use Rattle.std.proofs.Common.{sym, subst, ◌∙◌}
use Rattle.cvss_csv.specs.Tallies.{IsCanonicalOf}
use Rattle.cvss_csv.proofs.DifferentLemmas.{equal_vectors}
use Rattle.cvss_csv.proofs.different.are_equal.Goals as goal

pub returns-in-Some-Some : goal.returns-in-Some-Some
returns-in-Some-Some c = λ first second.
    let one = c.args.one.now.text.items in
    let other = c.args.other.now.text.items in
    equal_vectors one other c.in-Some-Some.one c.in-Some-Some.other c.are_same.result
    (subst (λ canonical. IsCanonicalOf canonical one) c.in-Some-Some.is-0 first)
    (subst (λ canonical. IsCanonicalOf canonical other) c.in-Some-Some.is-1 second) (
      λ holds. sym c.as_slice.ensures.value ∙ c.are_same.ensures.0 holds ∙ c.as_slice-in-Some-Some.ensures.value,
      λ is. c.are_same.ensures.1 (c.as_slice.ensures.value ∙ is ∙ sym c.as_slice-in-Some-Some.ensures.value),
    )
