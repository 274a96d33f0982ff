use Rattle.std.proofs.Common.{◌≡◌, ◌++◌, map, take}
use Rattle.cvss_explain.specs.Lines.{spoken_byte}
use Rattle.cvss_explain.proofs.lines.write_spoken.Given as goal

abbrev pub invariant-loop-byte : goal.invariant-loop-byte
invariant-loop-byte l = l.answers.bytes.items ≡ l.fn.answers.bytes.items ++ map spoken_byte (take l.byte-index l.bytes)
