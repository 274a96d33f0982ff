use Rattle.std.proofs.Common.{[], refl, subst, sym}
use Rattle.std.proofs.lemmas.Bool.{false≢true}
use Rattle.cvss_matches.proofs.FoundLemmas.{AreFound-none}
use Rattle.cvss_matches.specs.CandidatesLeft.{as_candidate, candidates_left}
use Rattle.cvss_matches.specs.Matches.{AreFound}
use Rattle.cvss_triage.proofs.InputLemmas.{found_first}
use Rattle.cvss_triage.proofs.input.has_no_vector.Goals as goal

pub returns-in-None : goal.returns-in-None
returns-in-None c = (
  λ _. subst (λ all. AreFound all []) c.of-matches.ensures (AreFound-none (candidates_left c.of-matches.result) c.in-None.ensures.steps),
  λ _. refl,
)

pub returns-in-Some : goal.returns-in-Some
returns-in-Some c = (
  λ is. absurd (false≢true is),
  λ are. absurd (found_first (candidates_left c.of-matches.result) (candidates_left c.next.new.self) (as_candidate c.in-Some.field-0) c.in-Some.ensures.steps
      (subst (λ all. AreFound all []) (sym c.of-matches.ensures) are)),
)
