use Rattle.std.proofs.Common.{[], subst}
use Rattle.cvss_matches.proofs.FoundLemmas.{AreFound-none}
use Rattle.cvss_matches.specs.CandidatesLeft.{as_candidate, candidates_left}
use Rattle.cvss_matches.specs.Matches.{AreFound}
use Rattle.cvss_vector.specs.Dispatch.{DenotesCvss}
use Rattle.cvss_triage.proofs.DenotingLemmas.{AllAre-none, HasOthers-several, IsOnlyMatch-one, IsVectorOf-all, IsVectorOf-several}
use Rattle.cvss_triage.proofs.reading.vector_of.Goals as goal

pub returns-in_default-clause-reason : goal.returns-in_default-clause-reason
returns-in_default-clause-reason c =
    subst (λ all. AreFound all []) c.of-matches.ensures (AreFound-none (candidates_left c.of-matches.result) c.in_default.ensures.steps)

pub returns-in-Ok-clause-vector : goal.returns-in-Ok-clause-vector
returns-in-Ok-clause-vector c =
    let left = candidates_left c.next.new.self in
    IsVectorOf-all c.args.line.now c.in-Ok.cvss (candidates_left c.of-matches.result) left (as_candidate c.in-Some.first) c.of-matches.ensures
    c.in-Some.ensures.steps c.in-Ok.ensures.denoted (AllAre-none (λ text. DenotesCvss text c.in-Ok.cvss) left c.in-None.ensures.steps)

pub returns-in-Err-clause-reason : goal.returns-in-Err-clause-reason
returns-in-Err-clause-reason c =
    let left = candidates_left c.next.new.self in
    record {
      text = c.in-Some.first.text.now;
      only = IsOnlyMatch-one c.args.line.now (candidates_left c.of-matches.result) left (as_candidate c.in-Some.first) c.of-matches.ensures c.in-Some.ensures.steps c.in-None.ensures.steps;
      is_right = c.in-Err.ensures.rejected;
    }

pub returns-in-Some-vector_of_all-clause-vector : goal.returns-in-Some-vector_of_all-clause-vector
returns-in-Some-vector_of_all-clause-vector c =
    let all = c.in-Some-vector_of_all.ensures.denoted in
    IsVectorOf-several c.args.line.now (candidates_left c.of-matches.result) (candidates_left c.next.new.self) (candidates_left c.next-2.new.self)
    (as_candidate c.in-Some.first) (as_candidate c.in-Some-next.second) c.of-matches.ensures c.in-Some.ensures.steps c.in-Some-next.ensures.steps
    c.in-Some-vector_of_all.cvss all.0 all.1 all.2

pub returns-in-None-vector_of_all-clause-reason : goal.returns-in-None-vector_of_all-clause-reason
returns-in-None-vector_of_all-clause-reason c =
    HasOthers-several c.args.line.now (candidates_left c.of-matches.result) (candidates_left c.next.new.self) (candidates_left c.next-2.new.self)
    (as_candidate c.in-Some.first) (as_candidate c.in-Some-next.second) c.of-matches.ensures c.in-Some.ensures.steps c.in-Some-next.ensures.steps
    c.in-None-vector_of_all.ensures.denoted
