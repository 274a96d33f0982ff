use Rattle.std.proofs.Common.{◌≡◌, List, [], ◌∷◌, ◌∙◌, ap, subst, sym, unwrap_or}
use Rattle.cvss_matches.specs.CandidatesLeft.{as_candidate, candidates_left}
use Rattle.cvss_matches.specs.Matches.{candidates_of}
use Rattle.cvss_vector.specs.declared.vector.Cvss.{Cvss}
use Rattle.cvss_triage.proofs.PickingLemmas.{all_none, begins_more, contains_match, none_denoted, vectors_none}
use Rattle.cvss_triage.specs.declared.overrides.Override.{Override}
use Rattle.cvss_triage.specs.private.Picking.{IsBest}
use Rattle.cvss_triage.specs.private.Steps.{AreOwnMetrics}
use Rattle.cvss_triage.proofs.preferring.highest.Goals as goal

pub returns-in_err-cvss-clause-picked : goal.returns-in_err-cvss-clause-picked
returns-in_err-cvss-clause-picked c = λ overrides own.
    let rules = c.args.rules.now in
    let Is : List Cvss → Type 0 = λ vectors. (overrides : List Override) → AreOwnMetrics overrides rules.own → IsBest overrides rules.scoring rules.allow_incomplete vectors c.loop-found.best in
    rw c.from_residual.ensures
    (λ first more are. absurd (
    none_denoted Is (candidates_of c.args.line.now) (candidates_left c.loop-found.matches) c.loop-found.invariant.0 (candidates_left c.next.new.self) (as_candidate c.in-Some.found) c.in-Some.ensures.steps
    (λ cvss denoted. let given = c.in_err-cvss.ensures.accepts cvss denoted in absurd cc) (first ∷ more) are))

pub returns-in_err-tenths-clause-picked : goal.returns-in_err-tenths-clause-picked
returns-in_err-tenths-clause-picked c = λ overrides own.
    let rules = c.args.rules.now in
    let Is : List Cvss → Type 0 = λ vectors. (overrides : List Override) → AreOwnMetrics overrides rules.own → IsBest overrides rules.scoring rules.allow_incomplete vectors c.loop-found.best in
    let cvss = c.in_ok-cvss.cvss in
    rw c.from_residual-in_err-tenths.ensures
    (λ first more are. (
      cvss,
      contains_match Is (candidates_of c.args.line.now) (candidates_left c.loop-found.matches) c.loop-found.invariant.0 (candidates_left c.next.new.self) (as_candidate c.in-Some.found) c.in-Some.ensures.steps cvss
          (λ other denoted. sym (ap (λ read. unwrap_or read other) (c.in_ok-cvss.ensures.accepts other denoted))) (first ∷ more) are,
      c.in_err-tenths.ensures overrides own,
    ))

pub loop-found-preserved : goal.loop-found-preserved
loop-found-preserved c =
    let rules = c.args.rules.now in
    let Is : List Cvss → Type 0 = λ vectors. (overrides : List Override) → AreOwnMetrics overrides rules.own → IsBest overrides rules.scoring rules.allow_incomplete vectors c.loop-found.best in
    let begins = c.loop-found.invariant.0 in
    let cvss = c.in_ok-cvss.cvss in (
      begins_more Is (candidates_of c.args.line.now) (candidates_left c.loop-found.matches) begins (candidates_left c.next.new.self) (as_candidate c.in-Some.found) c.in-Some.ensures.steps
          _ cvss c.in_ok-cvss.ensures.denoted (λ other denoted. sym (ap (λ read. unwrap_or read other) (c.in_ok-cvss.ensures.accepts other denoted)))
          (λ vectors is overrides own. c.higher.ensures.highest overrides rules.scoring rules.allow_incomplete vectors (is overrides own) (c.in_ok-tenths.ensures overrides own)),
      c.higher.ensures.scored c.loop-found.invariant.1 c.in_ok-cvss.ensures.scored,
    )

pub returns-in-Some-best-clause-picked : goal.returns-in-Some-best-clause-picked
returns-in-Some-best-clause-picked c = λ overrides own.
    let rules = c.args.rules.now in
    let Is : List Cvss → Type 0 = λ vectors. (overrides : List Override) → AreOwnMetrics overrides rules.own → IsBest overrides rules.scoring rules.allow_incomplete vectors c.loop-found.best in
    let begins = c.loop-found.invariant.0 in (
      begins.vectors,
      vectors_none Is (candidates_of c.args.line.now) (candidates_left c.loop-found.matches) begins c.in_default.ensures.steps,
      (c.in-Some-best.best.tenths, subst (IsBest overrides rules.scoring rules.allow_incomplete begins.vectors) c.in-Some-best.is (begins.is overrides own)),
    )

pub returns-in-None-clause-picked : goal.returns-in-None-clause-picked
returns-in-None-clause-picked c = λ overrides own first more are.
    let rules = c.args.rules.now in
    let Is : List Cvss → Type 0 = λ vectors. (overrides : List Override) → AreOwnMetrics overrides rules.own → IsBest overrides rules.scoring rules.allow_incomplete vectors c.loop-found.best in
    let begins = c.loop-found.invariant.0 in
    let none = subst (IsBest overrides rules.scoring rules.allow_incomplete begins.vectors) c.in-None.is (begins.is overrides own) in
    let empty : first ∷ more ≡ [] = all_none Is (candidates_of c.args.line.now) (candidates_left c.loop-found.matches) begins c.in_default.ensures.steps (first ∷ more) are ∙ none in
    absurd cc
