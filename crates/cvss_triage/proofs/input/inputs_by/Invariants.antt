use Rattle.std.proofs.Common.{List, ◌++◌, drop}
use Rattle.std.specs.List.{AllZip}
use Rattle.cvss_triage.specs.Inputs.{IsInputOf}
use Rattle.cvss_triage.specs.declared.input.Input.{Input}
use Rattle.cvss_triage.proofs.input.inputs_by.Given as goal

-- whatever the inputs of the texts that are left are, after these all are so
abbrev pub invariant-loop-text : goal.invariant-loop-text
invariant-loop-text l =
    let Is = IsInputOf l.fn.asked.form l.fn.asked.header l.fn.asked.column in
    (more : List Input) → AllZip Is (drop l.text-index l.fn.texts) more → AllZip Is l.fn.texts (l.inputs.items ++ more)
