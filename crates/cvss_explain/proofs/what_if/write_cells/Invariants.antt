use Rattle.std.proofs.Common.{option_copied, take}
use Rattle.cvss_explain.specs.Lines.{Joins}
use Rattle.cvss_explain.specs.WhatIf.{IsCell}
use Rattle.cvss_explain.specs.private.Writing.{Writes}
use Rattle.cvss_explain.proofs.what_if.write_cells.Given as goal

abbrev pub invariant-loop-value : goal.invariant-loop-value
invariant-loop-value l =
    Writes (Joins (λ value. IsCell l.cvss l.name (option_copied l.own) (value.0.now, value.1.now)) (take l.value-index l.values)) l.fn.answers.bytes.items l.answers.bytes.items
