-- What a command has come to after some runs, and with which status it ends.
use Rattle.std.specs.Prelude.{ℕ, ◌==◌, ◌||◌, Bool, true, false, not, Option, Some, None, Result, Ok, Err, if◌then◌else◌}
use Rattle.cvss_frame.specs.declared.served.Served.{Served}
use Rattle.cvss_lines.specs.declared.fault.RunFault.{RunFault}
use Rattle.cvss_lines.specs.declared.fault.RunFault.TheVariants.{Read, Write, Memory}
use Rattle.cvss_lines.specs.declared.summary.Summary.{Summary}

-- no line is rejected and nothing has failed
abbrev pub nothing_served : Served
nothing_served = record { rejected = false; unread = false; stopped = None }

-- what the command has come to after one more run; a source that cannot be read to its end stops nothing
abbrev pub after : Served → Result Summary RunFault → Served
after served (Ok summary) = record served { rejected = served.rejected || not (summary.rejected == 0) }
after served (Err Read) = record served { unread = true }
after served (Err Write) = record served { stopped = Some Write }
after served (Err Memory) = record served { stopped = Some Memory }

-- the status where everything was read, by what stopped the command, by whether the reader of its answers closed the
-- pipe, and by whether a line was rejected
abbrev pub status_if_read : Option RunFault → Bool → Bool → ℕ
status_if_read None closed rejected = if rejected then 1 else 0
status_if_read (Some Write) closed rejected = if closed then 0 else 2
status_if_read (Some Memory) closed rejected = 2
status_if_read (Some Read) closed rejected = 2

-- 2 after an error, 1 where a line was rejected, else 0
abbrev pub exit_status : Served → Bool → ℕ
exit_status served closed = if served.unread then 2 else status_if_read served.stopped closed served.rejected
