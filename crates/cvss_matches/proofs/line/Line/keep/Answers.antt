use Rattle.std.proofs.Common.{false, refl, subst, sym}
use Rattle.std.proofs.lemmas.Result.{IfOk-weaker}
use Rattle.std.specs.Prelude.{IfOk}
use Rattle.cvss_matches.specs.Answers.{IsKept}
use Rattle.cvss_matches.specs.CandidatesLeft.{as_candidate}
use Rattle.cvss_matches.specs.private.Reporting.{WritesKept, asked_of}
use Rattle.cvss_matches.proofs.KeptLemmas.{kept_reported}
use Rattle.cvss_matches.proofs.line.Line.keep.Goals as goal

pub returns-in-None : goal.returns-in-None
returns-in-None c =
    let line = c.args.self in
    let asked = asked_of line in
    let candidate = as_candidate c.args.found in
    let old = c.args.answers.now.bytes.items in
    let new = c.report.new.answers.bytes.items in
    subst (λ gate. IfOk c.report.result (WritesKept (IsKept gate asked candidate) line.form old new)) (sym c.in-None.is)
    (IfOk-weaker c.report.result _ _ (λ accepted written. kept_reported false false asked candidate old new new accepted written refl) c.report.ensures)

pub returns-in-Some : goal.returns-in-Some
returns-in-Some c =
    let line = c.args.self in
    let asked = asked_of line in
    let candidate = as_candidate c.args.found in
    subst (λ gate. IfOk c.keep_by.result (WritesKept (IsKept gate asked candidate) line.form c.args.answers.now.bytes.items c.keep_by.new.answers.bytes.items))
    (sym c.in-Some.is) c.keep_by.ensures
