use Rattle.std.proofs.Common.{◌<◌, vec_len}
use Rattle.std.specs.Io.KnownBytes.{Consumes}
use Rattle.cvss_audit.specs.private.Beginnings.{IsOpen}
use Rattle.cvss_audit.proofs.documents.files.read_beginning.Given as goal

abbrev pub invariant-loop : goal.invariant-loop
invariant-loop g l = record {
  room : 0 < vec_len l.chunk;
  is_open : IsOpen l.beginning.items l.has_text;
  consumed : Consumes (g.R.Read.remaining l.fn.reader) (g.R.Read.remaining l.reader) l.beginning.items;
}
