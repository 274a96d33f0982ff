use Rattle.std.proofs.Common.{arith, sym, ◌∙◌}
use Rattle.std.proofs.lemmas.Bool.{eqb-false}
use Rattle.std.proofs.lemmas.Bool.Decides.{nat_tests}
use Rattle.std.proofs.lemmas.List.{nil_from_length}
use Rattle.cvss_csv.proofs.WritingLemmas.{empty_answer, whole_answer}
use Rattle.cvss_csv.proofs.answer.Answerer.push_record.Goals as goal

pub returns-then-is_empty-clause-answered : goal.returns-then-is_empty-clause-answered
returns-then-is_empty-clause-answered c =
    empty_answer c.args.self.now.asked c.args.cells c.args.is_header c.args.cut.now.body.now c.args.cut.now.line_end.now c.args.out.now.bytes.items _
    (nil_from_length _ (grind (arith, nat_tests))) c.in_ok-push.ensures

pub returns-clause-answered : goal.returns-clause-answered
returns-clause-answered c =
    whole_answer c.args.self.now.asked c.args.cells c.args.is_header c.args.cut.now.body.now c.args.cut.now.line_end.now c.args.out.now.bytes.items
    c.args.cut.now.unclosed _ _ _ _ c.in_ok-counted.counted (eqb-false _ _ (sym c.is_empty.ensures ∙ c.if-is_empty.false)) c.requires
    c.in_ok-push_shown.ensures c.in_ok-push_closing.ensures c.in_ok-counted.ensures.cells c.in_ok-push-2.ensures
