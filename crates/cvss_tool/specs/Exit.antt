-- What the program says of a fault on standard error.
use Rattle.std.specs.Prelude.{ℕ, List, ◌++◌, codes}
use Rattle.cvss_lines.specs.Exit as lines
use Rattle.cvss_lines.specs.declared.fault.RunFault.{RunFault}

-- the program's name and the words for the fault
abbrev pub fault_text : RunFault → List ℕ
fault_text fault = codes "cvss_tool: " ++ lines.fault_text fault
