use Rattle.std.proofs.Common.{take}
use Rattle.cvss_triage.specs.Rows.{AreRowTexts, IsRowText}
use Rattle.cvss_triage.specs.Shown.{shown_rows}
use Rattle.cvss_triage.specs.private.Steps.{WritesRow}
use Rattle.cvss_triage.proofs.rows.write_rows.Given as goal

abbrev pub invariant-loop-row : goal.invariant-loop-row
invariant-loop-row l =
    WritesRow (AreRowTexts (IsRowText l.fn.style l.fn.locations.starts.now l.fn.locations.many l.fn.locations.operands.now) (shown_rows l.fn.gate (take l.row-index l.fn.rows)))
    l.fn.text.bytes.items l.text.bytes.items
