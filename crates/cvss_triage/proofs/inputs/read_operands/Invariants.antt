use Rattle.std.proofs.Common.{◌≡◌, ℕ, List, Option, ◌++◌, drop}
use Rattle.std.specs.Global.{Vec as Bytes}
use Rattle.cvss_frame.specs.Arguments.{bytes_of}
use Rattle.cvss_frame.specs.State.{State}
use Rattle.cvss_frame.specs.Streams.{state}
use Rattle.cvss_triage.specs.Inputs.{ReadsEach, ReadsInput}
use Rattle.cvss_triage.proofs.inputs.read_operands.Given as goal

-- however the operands that are left are read, all are so; nothing is written
abbrev pub invariant-loop-operand : goal.invariant-loop-operand
invariant-loop-operand g l = ((last : State) → (more : List (Option (Bytes ℕ)))
    → ReadsEach ReadsInput (bytes_of (drop l.operand-index l.fn.operands)) (state l.streams) last more
    → ReadsEach ReadsInput (bytes_of l.fn.operands) (state l.fn.streams) last (l.inputs.items ++ more))
    × ((state l.streams).written ≡ (state l.fn.streams).written)
