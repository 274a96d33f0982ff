-- How a program ends that answers lines: its exit status, and what it says of a fault.
use Rattle.std.specs.Prelude.{ℕ, List, codes, Result, Ok, Err, ◌==◌, if◌then◌else◌}
use Rattle.cvss_lines.specs.declared.summary.Summary.{Summary}
use Rattle.cvss_lines.specs.declared.fault.RunFault.{RunFault}
use Rattle.cvss_lines.specs.declared.fault.RunFault.TheVariants.{Read, Write, Memory}

-- 0 where no line was rejected, 1 where some were, 2 after a fault
abbrev pub exit_status : {F : Type 0} → Result Summary F → ℕ
exit_status (Ok summary) = if summary.rejected == 0 then 0 else 1
exit_status (Err fault) = 2

-- the words for a fault
abbrev pub fault_text : RunFault → List ℕ
fault_text Read = codes "read failed"
fault_text Write = codes "write failed"
fault_text Memory = codes "out of memory"
