use Rattle.std.proofs.Common.{◌≡◌, ◌++◌, drop}
use Rattle.cvss_explain.specs.Steps.{steps_lines}
use Rattle.cvss_explain.proofs.lines.write_steps.Given as goal

abbrev pub invariant-loop-step : goal.invariant-loop-step
invariant-loop-step l = l.answers.bytes.items ++ steps_lines (drop l.step-index l.steps) ≡ l.fn.answers.bytes.items ++ steps_lines l.steps
