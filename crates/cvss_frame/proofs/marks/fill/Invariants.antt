use Rattle.std.proofs.Common.{◌≡◌, ◌≤◌, ◌-◌, length, take}
use Rattle.std.specs.Io.KnownBytes.{Consumes, prepend_known}
use Rattle.cvss_frame.proofs.marks.fill.Given as goal

abbrev pub invariant-loop-reader : goal.invariant-loop-reader
invariant-loop-reader g l = record {
  room : l.count ≤ length l.buf;
  length : length l.buf ≡ length l.fn.buf;
  bytes : Consumes (prepend_known (take l.fn.held l.fn.buf) (g.R.Read.remaining l.fn.reader)) (g.R.Read.remaining l.reader) (take l.count l.buf);
}

abbrev pub decreases-loop-reader : goal.decreases-loop-reader
decreases-loop-reader g l = 3 - l.count
