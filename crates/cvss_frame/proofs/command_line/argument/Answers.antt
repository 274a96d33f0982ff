use Rattle.std.proofs.Common.{drop, length, arith, take_at}
use Rattle.cvss_frame.proofs.command_line.argument.Goals as goal

pub returns-in-Ok : goal.returns-in-Ok
returns-in-Ok g c =
    let buffer = c.copy_argument.new.buffer in
    rw (c.truncate.ensures.items, take_at buffer (drop (length buffer) c.loop.bytes.items) c.loop.bytes.len (omega arith)) c.in-Ok.ensures.bytes

pub returns-in-Err-NotPresent : goal.returns-in-Err-NotPresent
returns-in-Err-NotPresent g c = rw c.in-Err-NotPresent.field-0-is at c.in-Err-NotPresent.ensures.bytes
