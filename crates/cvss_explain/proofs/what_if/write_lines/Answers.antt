use Rattle.cvss_explain.specs.WhatIf.{IsLine}
use Rattle.cvss_explain.proofs.JoinLemmas.{writes_next}
use Rattle.cvss_explain.proofs.what_if.write_lines.Goals as goal

pub loop-kind-preserved : goal.loop-kind-preserved
loop-kind-preserved g c =
    let line = rw c.kind-item.is at c.in_ok-write_line.ensures in
    writes_next (IsLine g.V.Components.version g.V.Explained.words c.args.cvss.now c.args.vector.now) c.printed-kinds.result.now c.loop-kind.kind-index _ c.args.answers.now.bytes.items
    c.loop-kind.answers.bytes.items c.write_line.new.answers.bytes.items c.loop-kind-test.true c.loop-kind.invariant line
