use Rattle.std.proofs.Common.{◌++◌, ◌∙◌, ap, append_assoc, refl}
use Rattle.std.proofs.lemmas.Result.{on_ok_weaker}
use Rattle.cvss_csv.specs.Guards.{shown_record}
use Rattle.cvss_triage.specs.Rows.{row_end}
use Rattle.cvss_triage.proofs.table.write_table_row.Goals as goal

pub returns : goal.returns
returns c =
    let old = c.args.text.now.bytes.items in
    let shown = shown_record c.args.asked.guarded c.args.row.now.line.now in
    let vector = c.in_ok-push_vector.ensures in
    let end = row_end c.args.crlf in
    on_ok_weaker c.write_row_end.result
    (λ last. record {
      text = shown ++ (vector.cells ++ end);
      is_text = record { cells = vector.cells; are_cells = vector.are; is = refl };
      written =
          last ∙ ap (λ bytes. bytes ++ end) (vector.written ∙ ap (λ bytes. bytes ++ vector.cells) c.in_ok-push_shown.ensures)
          ∙ append_assoc (old ++ shown) vector.cells end ∙ append_assoc old shown (vector.cells ++ end);
    })
    c.write_row_end.ensures
