use Rattle.std.proofs.Common.{[], ◌++◌, ◌∙◌, ap, append_assoc, append-nil, refl, sym}
use Rattle.std.proofs.lemmas.Result.{on_ok_weaker}
use Rattle.cvss_explain.specs.V4.{IsPart}
use Rattle.cvss_explain.specs.private.Writing.{Writes}
use Rattle.cvss_score.specs.declared.v4.nomenclature.Nomenclature.TheVariants.{CvssBE}
use Rattle.cvss_explain.proofs.PartLemmas.{three_parts}
use Rattle.cvss_explain.proofs.v4.lines.write_parts.Goals as goal

pub returns : goal.returns
returns c =
    let b = c.in_ok-write_part.ensures in
    let bt = c.in_ok-write_part-2.ensures in
    on_ok_weaker c.write_part-3.result
    (λ (be : Writes (IsPart c.args.vector.now c.args.tenths CvssBE) c.write_part-2.new.answers.bytes.items c.write_part-3.new.answers.bytes.items). record {
      text = _;
      holds = (b.text, _, b.holds, (bt.text, _, bt.holds, (be.text, [], be.holds, refl, refl), refl), refl);
      written = three_parts _ b.text bt.text (be.text ++ []) _ _ _ b.written bt.written
          (be.written ∙ ap (λ text. c.write_part-2.new.answers.bytes.items ++ text) (sym (append-nil be.text)))
          ∙ ap (λ text. c.args.answers.now.bytes.items ++ text) (append_assoc b.text bt.text (be.text ++ []));
    })
    c.write_part-3.ensures
