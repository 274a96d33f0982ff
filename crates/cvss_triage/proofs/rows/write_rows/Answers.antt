use Rattle.std.proofs.Common.{◌+◌, ◌∙◌, subst, sym, take}
use Rattle.cvss_report.specs.Gates.{shows}
use Rattle.cvss_triage.specs.Rows.{AreRowTexts, IsRowText}
use Rattle.cvss_triage.specs.Shown.{shown_rows}
use Rattle.cvss_triage.specs.private.Steps.{WritesRow}
use Rattle.cvss_triage.proofs.RowLemmas.{texts_kept, texts_more, texts_none}
use Rattle.cvss_triage.proofs.rows.write_rows.Goals as goal
use Rattle.cvss_triage.proofs.rows.write_rows.Goals.{then-shows+in_ok-write_row, else-shows}

pub loop-row-init : goal.loop-row-init
loop-row-init c =
    let locations = c.args.locations.now in
    texts_none (IsRowText c.args.style.now locations.starts.now locations.many locations.operands.now) c.args.text.now.bytes.items

pub loop-row-preserved : goal.loop-row-preserved
loop-row-preserved c =
    let gate = c.args.gate in
    let locations = c.args.locations.now in
    let IsText = IsRowText c.args.style.now locations.starts.now locations.many locations.operands.now in
    let rows = c.args.rows.now in
    let index = c.loop-row.row-index in
    let old = c.args.text.now.bytes.items in
    elim c.if-shows.branch [
      | then-shows+in_ok-write_row w ↦
          subst (λ text. WritesRow (AreRowTexts IsText (shown_rows gate (take (index + 1) rows))) old text.bytes.items) (sym w.text-is)
          (texts_more IsText (λ row. shows gate row.tenths) rows index _ old c.loop-row.text.bytes.items
          c.loop-row-test.true c.loop-row.invariant _ (sym c.shows.ensures ∙ w.if-shows.true) w.in_ok-write_row.ensures)
      | else-shows w ↦
          subst (λ text. WritesRow (AreRowTexts IsText (shown_rows gate (take (index + 1) rows))) old text.bytes.items) (sym w.text-is)
          (texts_kept IsText (λ row. shows gate row.tenths) rows index _ old c.loop-row.text.bytes.items
          c.loop-row-test.true c.loop-row.invariant (sym c.shows.ensures ∙ w.if-shows.false))
    ]
