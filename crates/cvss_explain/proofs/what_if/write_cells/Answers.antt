use Rattle.std.proofs.Common.{option_copied}
use Rattle.cvss_explain.specs.WhatIf.{IsCell}
use Rattle.cvss_explain.proofs.JoinLemmas.{writes_next}
use Rattle.cvss_explain.proofs.what_if.write_cells.Goals as goal

pub loop-value-preserved : goal.loop-value-preserved
loop-value-preserved c =
    writes_next (λ value. IsCell c.args.cvss.now c.args.name.now (option_copied c.args.own) (value.0.now, value.1.now)) c.args.values.now c.loop-value.value-index _ c.args.answers.now.bytes.items
    c.loop-value.answers.bytes.items c.write_cell.new.answers.bytes.items c.loop-value-test.true c.loop-value.invariant c.in_ok-write_cell.ensures
