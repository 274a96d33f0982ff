use Rattle.std.proofs.Common.{ap, ◌++◌, ◌∙◌, append_assoc, option_map, refl, subst}
use Rattle.cvss_lines.specs.Answers.{written_answer}
use Rattle.cvss_report.specs.Rows.{cells_rule}
use Rattle.cvss_report.specs.declared.format.Format.TheVariants.{Json}
use Rattle.cvss_triage.specs.Rows.{first_members}
use Rattle.cvss_triage.proofs.rows.write_object.Goals as goal

pub returns : goal.returns
returns c =
    let old = c.args.text.now.bytes.items in
    let within = c.of_line-number.result.1 in
    let name = option_map (λ name. name.now) c.of_line-number.result.0 in
    let first = first_members name within c.args.row.now.line.now in
    let writes = c.in_ok-write_cells.ensures within in
    let given = c.as_bytes.ensures.value ∙ c.in_ok-vector.ensures.ok in
    record {
      text = first ++ written_answer writes.answer;
      is_text = record {
        name = name;
        within = within;
        at = c.of_line-number.ensures;
        accepted = c.in_ok-write_cells.field-0;
        written = record {
          answer = writes.answer;
          answers = subst (λ text. cells_rule Json c.args.allow_incomplete within text writes.answer) given writes.answers;
          reported = writes.reported;
          written = refl;
        };
      };
      written = writes.written ∙ ap (λ bytes. bytes ++ written_answer writes.answer) c.in_ok-write_first_members.ensures ∙ append_assoc old first (written_answer writes.answer);
    }
