use Rattle.std.proofs.Common.{◌∙◌}
use Rattle.cvss_matches.proofs.NextLemmas.{IsFirstFound-after, Passes-one, Passes-trans}
use Rattle.cvss_matches.specs.Matches.{candidate_of}
use Rattle.cvss_matches.specs.CandidatesLeft.{as_candidate, candidates_left}
use Rattle.cvss_matches.proofs.matches.Matches.find_next.Goals as goal

pub returns-in-Some-find_in-clause-next : goal.returns-in-Some-find_in-clause-next
returns-in-Some-find_in-clause-next c =
    IsFirstFound-after (candidates_left c.args.self.now) (candidates_left c.loop-offset.self) (candidates_left c.cut_next.new.self)
    (candidate_of c.in-Some.offset c.in-Some.part.now) (as_candidate c.in-Some-find_in.found)
    c.loop-offset.invariant.0 c.in-Some.ensures.cut c.in-Some-find_in.ensures.0 c.in-Some-find_in.ensures.1

pub loop-offset-preserved : goal.loop-offset-preserved
loop-offset-preserved c = (
  Passes-trans (candidates_left c.args.self.now) (candidates_left c.cut_next.new.self) (candidates_left c.pass_after_run.new.self)
      (Passes-one (candidates_left c.args.self.now) (candidates_left c.loop-offset.self) (candidates_left c.cut_next.new.self)
      (candidate_of c.in-Some.offset c.in-Some.part.now) c.loop-offset.invariant.0 c.in-Some.ensures.cut c.in_default-find_in.ensures)
      c.pass_after_run.ensures.passes,
  c.pass_after_run.ensures.text ∙ (c.cut_next.ensures.text ∙ c.loop-offset.invariant.1),
)
