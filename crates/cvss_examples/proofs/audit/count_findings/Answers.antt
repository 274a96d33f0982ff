use Rattle.std.proofs.Common.{◌≡◌, ◌≤◌, ◌<◌, ℕ, Some, subst, List, [], ◌∷◌, ◌++◌, Bor, length, map, take, ap, sym, ◌∙◌, arith, rules}
use Rattle.std.proofs.lemmas.List.{get_or-map, length-map, length-take-le, take_more}
use Rattle.cvss_examples.specs.Counts.{IsCountOf}
use Rattle.cvss_examples.specs.Findings.{IsAtOrAbove, IsFinding, IsNoVector}
use Rattle.cvss_examples.proofs.CountLemmas.{IsCountOf-le-length, IsCountOf-push, IsCountOf-skip}
use Rattle.cvss_examples.proofs.audit.count_findings.Goals.{in-Some, in-Some+else-is_rated, in-None}
use Rattle.cvss_examples.proofs.audit.count_findings.Goals as goal

abbrev texts_of : List (Bor (List ℕ)) → List (List ℕ)
texts_of texts = map (λ text. text.now) texts

within : (texts : List (Bor (List ℕ))) (place : ℕ) → place < length texts → place < length (texts_of texts)
within texts place below = omega (arith, length-map texts (λ (text : Bor (List ℕ)). text.now))

-- a count of the texts before this one is at most their number
at_most : (Holds : List ℕ → Type 0) (texts : List (Bor (List ℕ))) (place count : ℕ) → place < length texts → IsCountOf Holds (take place (texts_of texts)) count → count ≤ place
at_most Holds texts place count below counted =
    omega (arith, IsCountOf-le-length Holds (take place (texts_of texts)) count counted, within texts place below, length-take-le place (texts_of texts) (omega (arith, within texts place below)))

pub overflow_add-findings : goal.overflow_add-findings
overflow_add-findings c =
    let bound = at_most (IsFinding c.args.level) c.args.texts.now c.loop-text.text-index c.loop-text.findings c.loop-text-test.true c.loop-text.invariant.0 in
    omega (arith, bound, c.loop-text-test.true)

pub overflow_add-rejected : goal.overflow_add-rejected
overflow_add-rejected c =
    let bound = at_most IsNoVector c.args.texts.now c.loop-text.text-index c.loop-text.rejected c.loop-text-test.true c.loop-text.invariant.1 in
    omega (arith, bound, c.loop-text-test.true)

pub loop-text-preserved : goal.loop-text-preserved
loop-text-preserved c =
    let level = c.args.level in
    let texts = c.args.texts.now in
    let index = c.loop-text.text-index in
    let before = take index (texts_of texts) in
    let text = c.as_bytes.result.now in
    let here = c.as_bytes.ensures.value ∙ sym (get_or-map (λ (text : Bor (List ℕ)). text.now) texts index _ [] c.loop-text-test.true) in
    let more = take_more (texts_of texts) index [] (within texts index c.loop-text-test.true) ∙ ap (λ each. before ++ each ∷ []) (sym here) in
    let counted = c.loop-text.invariant in
    elim c.match-read_bytes.branch [
      | in-Some w ↦
          let denoted = w.in-Some.ensures.denoted in
          rw (more, w.findings-is, w.rejected-is) (
            IsCountOf-push (IsFinding level) before text _ counted.0 (record { vector = w.in-Some.cvss; denoted = denoted; rated = w.is_rated.ensures.0 w.if-is_rated.true }),
            IsCountOf-skip IsNoVector before text _ counted.1 (λ none. none w.in-Some.cvss denoted),
          )
      | in-Some+else-is_rated w ↦
          let read = w.in-Some.ensures in
          rw (more, w.findings-is, w.rejected-is) (
            IsCountOf-skip (IsFinding level) before text _ counted.0 (λ is.
                let some : Some w.in-Some.cvss ≡ Some is.vector = read.accepts is.vector is.denoted in
                let one : is.vector ≡ w.in-Some.cvss = cc in
                search (rules, w.is_rated.ensures.1 (subst (IsAtOrAbove level) one is.rated), w.if-is_rated.false)),
            IsCountOf-skip IsNoVector before text _ counted.1 (λ none. none w.in-Some.cvss read.denoted),
          )
      | in-None w ↦
          let rejected : IsNoVector text = λ vector is. search (rules, w.in-None.ensures.accepts vector is) in
          rw (more, w.findings-is, w.rejected-is) (
            IsCountOf-skip (IsFinding level) before text _ counted.0 (λ is. rejected is.vector is.denoted),
            IsCountOf-push IsNoVector before text _ counted.1 rejected,
          )
    ]
