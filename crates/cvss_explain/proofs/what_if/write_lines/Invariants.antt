use Rattle.std.proofs.Common.{take}
use Rattle.cvss_explain.specs.Lines.{Joins}
use Rattle.cvss_explain.specs.WhatIf.{IsLine}
use Rattle.cvss_explain.specs.private.Writing.{Writes}
use Rattle.cvss_explain.proofs.what_if.write_lines.Given as goal

abbrev pub invariant-loop-kind : goal.invariant-loop-kind
invariant-loop-kind g l =
    Writes (Joins (IsLine g.V.Components.version g.V.Explained.words l.cvss l.vector) (take l.kind-index l.kinds)) l.fn.answers.bytes.items l.answers.bytes.items
