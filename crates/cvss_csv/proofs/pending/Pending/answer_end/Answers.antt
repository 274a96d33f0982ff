use Rattle.std.proofs.Common.{◌<◌, [], arith, length, subst, ◌∙◌}
use Rattle.std.proofs.lemmas.Bool.Decides.{nat_tests}
use Rattle.std.proofs.lemmas.List.{nil_from_length}
use Rattle.std.proofs.lemmas.Result.{IfErr-weaker, on_ok_weaker}
use Rattle.cvss_csv.specs.private.Steps.{AnswersRecord, CannotAnswer}
use Rattle.cvss_csv.proofs.ReadsLemmas.{EndsInput_none, EndsInput_record, StopsEnding_record}
use Rattle.cvss_csv.proofs.pending.Pending.answer_end.Goals as goal

pub returns-then-is_empty-clause-answered : goal.returns-then-is_empty-clause-answered
returns-then-is_empty-clause-answered c = EndsInput_none c.args.column c.args.self.now (nil_from_length _ (grind (arith, nat_tests)))

pub returns-clause-answered : goal.returns-clause-answered
returns-clause-answered c =
    let old = c.args.self.now in
    let new = c.answer_record.new.self in
    let some : 0 < length old.cut.items = grind (arith, nat_tests) in
    on_ok_weaker c.answer_record.result
    (λ answers. EndsInput_record c.args.column old (record old { progress = new }) some
    (subst (λ body. AnswersRecord c.args.column body [] old.progress new) (c.last-last.ensures.body ∙ c.deref.ensures.value)
    (subst (λ line_end. AnswersRecord c.args.column c.last-last.result.body.now line_end old.progress new) c.last-last.ensures.line_end answers)))
    c.answer_record.ensures.answered

pub returns-clause-stopped : goal.returns-clause-stopped
returns-clause-stopped c =
    let some : 0 < length c.args.self.now.cut.items = grind (arith, nat_tests) in
    IfErr-weaker c.answer_record.result _ _
    (λ fault cannot. StopsEnding_record c.args.column c.args.self.now fault some
    (subst (λ body. CannotAnswer c.args.column body c.args.self.now.progress fault) (c.last-last.ensures.body ∙ c.deref.ensures.value) cannot))
    c.answer_record.ensures.stopped
