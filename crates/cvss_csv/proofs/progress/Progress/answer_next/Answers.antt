use Rattle.std.proofs.Common.{[], arith, append-nil, refl, sym}
use Rattle.std.proofs.lemmas.Bool.Decides.{nat_tests}
use Rattle.std.proofs.lemmas.List.{nil_from_length}
use Rattle.cvss_csv.proofs.RowsLemmas.{answer_none}
use Rattle.cvss_csv.proofs.progress.Progress.answer_next.Goals as goal

pub returns-then-is_empty-clause-answered : goal.returns-then-is_empty-clause-answered
returns-then-is_empty-clause-answered c = record {
  answered = record { bytes = []; counted = [] };
  is_answer = answer_none c.args.self.now.answerer.asked c.args.cells c.args.is_header c.args.cut.now.body.now c.args.cut.now.line_end.now _ c.if-not-self.false (nil_from_length _ (grind (arith, nat_tests))) refl;
  written = sym (append-nil c.args.self.now.answers.bytes.items);
  counts = refl;
  asked = refl;
  known = refl;
}
