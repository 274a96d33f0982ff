use Rattle.std.proofs.Common.{false, subst, sym}
use Rattle.cvss_matches.specs.Answers.{IsKeptIf}
use Rattle.cvss_matches.specs.CandidatesLeft.{as_candidate}
use Rattle.cvss_matches.specs.private.Reporting.{WritesKept, asked_of}
use Rattle.cvss_matches.proofs.KeptLemmas.{kept_reported}
use Rattle.cvss_matches.proofs.line.Line.let_through.Goals as goal

pub returns : goal.returns
returns c =
    let line = c.args.self in
    let asked = asked_of line in
    let candidate = as_candidate c.args.found in
    subst (WritesKept (IsKeptIf false c.args.quiet c.args.failing asked candidate) line.form c.args.answers.now.bytes.items c.take_back.new.answers.bytes.items)
    (sym c.accepts.ensures)
    (kept_reported c.args.quiet c.args.failing asked candidate c.args.answers.now.bytes.items _ _ c.in_ok-accepted.accepted
    c.in_ok-accepted.ensures (rw c.waiting_bytes-waiting.ensures at c.take_back.ensures))
