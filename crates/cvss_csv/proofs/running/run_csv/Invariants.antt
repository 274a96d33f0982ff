use Rattle.std.proofs.Common.{◌<◌, vec_len}
use Rattle.cvss_csv.proofs.RunLemmas.{Between}
use Rattle.cvss_csv.proofs.running.run_csv.Given as goal

abbrev pub invariant-loop : goal.invariant-loop
invariant-loop g l = record {
  room : 0 < vec_len l.chunk;
  between : Between l.fn.asked l.fn.column (g.R.Read.remaining l.fn.reader) (g.R.Read.remaining l.reader) (g.W.Write.contents l.fn.writer) (g.W.Write.contents l.writer) l.pending;
}
