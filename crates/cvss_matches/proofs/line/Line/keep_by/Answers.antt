use Rattle.std.proofs.Common.{◌∙◌, sym}
use Rattle.std.proofs.lemmas.Result.{IfOk-weaker}
use Rattle.cvss_matches.specs.CandidatesLeft.{as_candidate}
use Rattle.cvss_matches.specs.private.Reporting.{asked_of}
use Rattle.cvss_matches.proofs.KeptLemmas.{kept_through, passed_over}
use Rattle.cvss_matches.proofs.line.Line.keep_by.Goals as goal

pub returns-then-passes_over : goal.returns-then-passes_over
returns-then-passes_over c =
    passed_over c.args.gate (asked_of c.args.self) (as_candidate c.args.found) c.in_ok-score.score c.args.answers.now.bytes.items
    c.in_ok-score.ensures (sym c.passes_over.ensures ∙ c.if-passes_over.true)

pub returns : goal.returns
returns c =
    IfOk-weaker c.let_through.result _ _
    (λ accepted written. kept_through c.args.gate (asked_of c.args.self) (as_candidate c.args.found) c.in_ok-score.score c.fails_on.result
    c.args.answers.now.bytes.items c.let_through.new.answers.bytes.items accepted
    c.in_ok-score.ensures (sym c.passes_over.ensures ∙ c.if-passes_over.false) c.fails_on.ensures written)
    c.let_through.ensures
