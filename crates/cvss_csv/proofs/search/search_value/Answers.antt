use Rattle.cvss_matches.specs.CandidatesLeft.{as_candidate, candidates_left}
use Rattle.cvss_matches.specs.Matches.{candidates_of}
use Rattle.cvss_csv.proofs.SearchLemmas.{found_all, found_next, found_start}
use Rattle.cvss_csv.proofs.search.search_value.Goals as goal

pub loop-found-init : goal.loop-found-init
loop-found-init g c = found_start g.N.Notes.is_of (candidates_of c.args.text.now) (candidates_left c.of-matches.result) c.args.notes.now c.of-matches.ensures

pub loop-found-preserved : goal.loop-found-preserved
loop-found-preserved g c =
    found_next g.N.Notes.is_of (candidates_of c.args.text.now) (candidates_left c.loop-found.matches) _ (as_candidate c.in-Some.found) c.args.notes.now c.loop-found.notes _
    c.loop-found.invariant c.in-Some.ensures.steps c.in_ok-note.ensures

pub returns : goal.returns
returns g c = found_all g.N.Notes.is_of c.args.text.now (candidates_left c.loop-found.matches) c.args.notes.now c.loop-found.notes c.loop-found.invariant c.in_default.ensures.steps
