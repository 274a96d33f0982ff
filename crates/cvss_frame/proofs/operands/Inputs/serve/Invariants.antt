use Rattle.std.proofs.Common.{length}
use Rattle.cvss_frame.specs.Exit.{nothing_served}
use Rattle.cvss_frame.specs.Operands.{Serves}
use Rattle.cvss_frame.specs.State.{State}
use Rattle.cvss_frame.specs.Streams.{state}
use Rattle.cvss_frame.specs.declared.served.Served.{Served}
use Rattle.cvss_frame.proofs.operands.Inputs.serve.Given as goal

-- however the operands that are left are answered, all are so
abbrev pub invariant-loop-operand : goal.invariant-loop-operand
invariant-loop-operand g l = (new : State) → (served : Served)
    → Serves (g.T.Task.ends l.fn.self.task.now) l.fn.self.many l.left (state l.streams) new l.served served
    → Serves (g.T.Task.ends l.fn.self.task.now) l.fn.self.many l.fn.operands (state l.fn.streams) new nothing_served served

abbrev pub decreases-loop-operand : goal.decreases-loop-operand
decreases-loop-operand g l = length l.left
