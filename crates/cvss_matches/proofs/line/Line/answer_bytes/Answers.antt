use Rattle.std.proofs.Common.{subst, sym}
use Rattle.std.specs.Prelude.{IfOk}
use Rattle.cvss_lines.specs.Answers.{WritesAnswer}
use Rattle.cvss_matches.specs.Answers.{answers_as}
use Rattle.cvss_matches.proofs.line.Line.answer_bytes.Goals as goal

pub returns-else-is_changed : goal.returns-else-is_changed
returns-else-is_changed c =
    let line = c.args.self in
    let call = c.answer_text-else-is_changed in
    subst (λ text. IfOk call.result (WritesAnswer (answers_as line.form line.scoring line.allow_incomplete) line.number text c.args.answers.now.bytes.items call.new.answers.bytes.items))
    (sym (c.is_changed.ensures (cc c.if-is_changed.false))) call.ensures
