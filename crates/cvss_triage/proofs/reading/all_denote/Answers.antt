use Rattle.std.proofs.Common.{List, ℕ, refl, sym, ◌∙◌}
use Rattle.std.proofs.lemmas.Bool.{false≢true}
use Rattle.cvss_matches.specs.CandidatesLeft.{as_candidate, candidates_left}
use Rattle.cvss_vector.specs.Dispatch.{DenotesCvss}
use Rattle.cvss_triage.proofs.DenotingLemmas.{AllAre-first, AllAre-head, AllAre-none, AllAre-tail}
use Rattle.cvss_triage.proofs.reading.all_denote.Goals as goal

pub loop-found-preserved : goal.loop-found-preserved
loop-found-preserved c =
    let Is : List ℕ → Type 0 = λ text. DenotesCvss text c.args.cvss.now in
    let left = candidates_left c.loop-found.matches in
    let rest = candidates_left c.next.new.self in
    let match = as_candidate c.in-Some.found in
    let own = c.denotes.ensures.0 c.if-not-denotes.false in (
      λ all. c.loop-found.invariant.0 (AllAre-first Is left rest match c.in-Some.ensures.steps own all),
      λ all. AllAre-tail Is left rest match c.in-Some.ensures.steps (c.loop-found.invariant.1 all),
    )

pub returns-then-not-denotes : goal.returns-then-not-denotes
returns-then-not-denotes c =
    let Is : List ℕ → Type 0 = λ text. DenotesCvss text c.args.cvss.now in
    let own = AllAre-head Is (candidates_left c.loop-found.matches) (candidates_left c.next.new.self) (as_candidate c.in-Some.found) c.in-Some.ensures.steps in
    (λ no. absurd (false≢true no), λ all. sym c.if-not-denotes.true ∙ c.denotes.ensures.1 (own (c.loop-found.invariant.1 all)))

pub returns : goal.returns
returns c =
    let none = AllAre-none (λ text. DenotesCvss text c.args.cvss.now) (candidates_left c.loop-found.matches) c.in_default.ensures.steps in
    (λ yes. c.loop-found.invariant.0 none, λ all. refl)
