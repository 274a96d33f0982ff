use Rattle.std.proofs.Common.{sym, ◌∙◌}
use Rattle.std.proofs.lemmas.Bool.{eqb-false}
use Rattle.cvss_csv.proofs.WritingLemmas.{Writes-weaker, cell_read}
use Rattle.cvss_csv.proofs.answer.push_trimmed.Goals as goal

pub returns : goal.returns
returns c =
    let some = eqb-false _ _ (sym c.is_empty.ensures ∙ c.if-is_empty.false) in
    Writes-weaker c.args.asked _ _ _ _ c.push_read.result
    (λ verdict read. record {
      text = c.trim_ascii-text.result.now;
      trimmed = c.trim_ascii-text.ensures.value;
      is = cell_read c.args.asked.allow_incomplete c.trim_ascii-text.result.now verdict some read;
    })
    c.push_read.ensures
