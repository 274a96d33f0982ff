use Rattle.std.proofs.Common.{[], ◌∙◌, append-nil, refl, sym}
use Rattle.cvss_lines.specs.Answers.{Accepted}
use Rattle.cvss_lists.proofs.gated.GatedAnswering.answer_line.Goals as goal

pub returns-then-passes_over : goal.returns-then-passes_over
returns-then-passes_over g c = record {
  answer = Accepted [];
  answers = record {
    score = c.score_of-score.result;
    reported = c.score_of-score.ensures;
    is = rw (sym c.passes_over.ensures ∙ c.if-passes_over.true) refl;
  };
  reported = refl;
  written = sym (append-nil c.args.answers.now.bytes.items);
}
