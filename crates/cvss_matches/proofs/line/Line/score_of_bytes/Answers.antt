use Rattle.std.proofs.Common.{subst, sym}
use Rattle.cvss_matches.specs.Answers.{IsTextScored}
use Rattle.cvss_matches.specs.private.Reporting.{asked_of}
use Rattle.cvss_matches.proofs.line.Line.score_of_bytes.Goals as goal

pub returns-in_ok-text : goal.returns-in_ok-text
returns-in_ok-text c =
    let call = c.score_of_text in
    subst (λ text. IsTextScored (asked_of c.args.self) text call.result) c.in_ok-text.ensures
    (subst (λ text. IsTextScored (asked_of c.args.self) text call.result) c.deref.ensures.value call.ensures)

pub returns-else-is_changed : goal.returns-else-is_changed
returns-else-is_changed c =
    let call = c.score_of_text-else-is_changed in
    subst (λ text. IsTextScored (asked_of c.args.self) text call.result) (sym (c.is_changed.ensures (cc c.if-is_changed.false))) call.ensures
