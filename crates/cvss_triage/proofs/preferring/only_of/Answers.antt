use Rattle.std.proofs.Common.{List, ◌∷◌, ◌∙◌, ap, sym, unwrap_or}
use Rattle.std.proofs.lemmas.Bool.{false≢true}
use Rattle.cvss_matches.specs.CandidatesLeft.{as_candidate, candidates_left}
use Rattle.cvss_matches.specs.Matches.{candidates_of}
use Rattle.cvss_vector.specs.declared.vector.Cvss.{Cvss}
use Rattle.cvss_triage.proofs.PickingLemmas.{begins_more, contains_before, contains_match, none_denoted, only_differs, only_other, only_picked, only_same}
use Rattle.cvss_triage.specs.private.Picking.{IsOnly}
use Rattle.cvss_triage.proofs.preferring.only_of.Goals as goal

pub returns-in_err-cvss-clause-picked : goal.returns-in_err-cvss-clause-picked
returns-in_err-cvss-clause-picked c = λ overrides scoring allow_incomplete.
    let Is : List Cvss → Type 0 = λ vectors. IsOnly c.args.version vectors c.loop-found.only in
    rw c.from_residual.ensures
    (λ first more are. absurd (
    none_denoted Is (candidates_of c.args.line.now) (candidates_left c.loop-found.matches) c.loop-found.invariant.0 (candidates_left c.next.new.self) (as_candidate c.in-Some.found) c.in-Some.ensures.steps
    (λ cvss denoted. let given = c.in_err-cvss.ensures.accepts cvss denoted in absurd cc) (first ∷ more) are))

pub returns-then-not-is_same-clause-picked : goal.returns-then-not-is_same-clause-picked
returns-then-not-is_same-clause-picked c = λ overrides scoring allow_incomplete first more are.
    let all : List Cvss = first ∷ more in
    let version = c.args.version in
    let Is : List Cvss → Type 0 = λ vectors. IsOnly version vectors c.loop-found.only in
    let begins = c.loop-found.invariant.0 in
    let candidates = candidates_of c.args.line.now in
    let left = candidates_left c.loop-found.matches in
    let cvss = c.in_ok-cvss.cvss in
    only_differs version begins.vectors all c.loop-found.only cvss begins.is (c.is_of.ensures.0 c.if-is_of.true)
    (λ same. absurd (false≢true (sym c.if-not-is_same.true ∙ c.is_same.ensures.1 same)))
    (λ own contained. contains_before Is candidates left begins own contained all are)
    (contains_match Is candidates left begins (candidates_left c.next.new.self) (as_candidate c.in-Some.found) c.in-Some.ensures.steps cvss
    (λ other denoted. sym (ap (λ read. unwrap_or read other) (c.in_ok-cvss.ensures.accepts other denoted))) all are)

pub loop-found-preserved-then-is_of : goal.loop-found-preserved-then-is_of
loop-found-preserved-then-is_of c =
    let version = c.args.version in
    let only = c.loop-found.only in
    let Is : List Cvss → Type 0 = λ vectors. IsOnly version vectors only in
    let begins = c.loop-found.invariant.0 in
    let cvss = c.in_ok-cvss.cvss in (
      begins_more Is (candidates_of c.args.line.now) (candidates_left c.loop-found.matches) begins (candidates_left c.next.new.self) (as_candidate c.in-Some.found) c.in-Some.ensures.steps
          _ cvss c.in_ok-cvss.ensures.denoted (λ other denoted. sym (ap (λ read. unwrap_or read other) (c.in_ok-cvss.ensures.accepts other denoted)))
          (λ vectors is. only_same version vectors cvss only (c.is_of.ensures.0 c.if-is_of.true) (c.is_same.ensures.0 c.if-not-is_same.false) is),
      c.in_ok-cvss.ensures.scored,
    )

pub loop-found-preserved : goal.loop-found-preserved
loop-found-preserved c =
    let version = c.args.version in
    let only = c.loop-found.only in
    let Is : List Cvss → Type 0 = λ vectors. IsOnly version vectors only in
    let begins = c.loop-found.invariant.0 in
    let cvss = c.in_ok-cvss.cvss in (
      begins_more Is (candidates_of c.args.line.now) (candidates_left c.loop-found.matches) begins (candidates_left c.next.new.self) (as_candidate c.in-Some.found) c.in-Some.ensures.steps
          _ cvss c.in_ok-cvss.ensures.denoted (λ other denoted. sym (ap (λ read. unwrap_or read other) (c.in_ok-cvss.ensures.accepts other denoted)))
          (λ vectors is. only_other version vectors cvss only (λ same. absurd (false≢true (sym c.if-is_of.false ∙ c.is_of.ensures.1 same))) is),
      c.loop-found.invariant.1,
    )

pub returns-clause-picked : goal.returns-clause-picked
returns-clause-picked c = only_picked c.args.line.now (candidates_left c.loop-found.matches) c.args.version c.loop-found.only c.loop-found.invariant.0 c.in_default.ensures.steps
