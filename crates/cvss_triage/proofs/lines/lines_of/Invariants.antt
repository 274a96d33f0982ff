use Rattle.std.proofs.Common.{◌≡◌, ◌++◌, drop, length}
use Rattle.cvss_triage.specs.Lines.{lines_of}
use Rattle.cvss_triage.specs.Locations.{starts_after, starts_of}
use Rattle.cvss_triage.specs.private.Steps.{rows_of}
use Rattle.cvss_triage.proofs.lines.lines_of.Given as goal

-- with what the inputs that are left have there is all
abbrev pub invariant-loop-input : goal.invariant-loop-input
invariant-loop-input l = record {
  lines : rows_of l.lines.items ++ lines_of l.fn.form (drop l.input-index l.fn.inputs) ≡ lines_of l.fn.form l.fn.inputs;
  starts : l.starts.items ++ starts_after l.fn.form (length l.lines.items) (drop l.input-index l.fn.inputs) ≡ starts_of l.fn.form l.fn.inputs;
}
