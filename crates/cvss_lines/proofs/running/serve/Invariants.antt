use Rattle.std.proofs.Common.{◌<◌, vec_len}
use Rattle.cvss_lines.proofs.RunLemmas.{Between}
use Rattle.cvss_lines.proofs.running.serve.Given as goal

abbrev pub invariant-loop : goal.invariant-loop
invariant-loop g l = record {
  room : 0 < vec_len l.chunk;
  between : Between (g.S.Service.rule l.fn.service) (g.S.Service.beginning l.fn.service) (g.R.Read.remaining l.fn.reader) (g.R.Read.remaining l.reader)
      (g.W.Write.contents l.fn.writer) (g.W.Write.contents l.writer) l.pending;
}
