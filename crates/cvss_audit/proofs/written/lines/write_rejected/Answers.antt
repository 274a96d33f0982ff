use Rattle.std.proofs.lemmas.Result.{on_ok_weaker}
use Rattle.cvss_audit.proofs.written.lines.write_rejected.Goals as goal

pub returns : goal.returns
returns c = on_ok_weaker c.end_into.result (λ all. all _ (c.put_rejected.ensures.held _ c.begin_after-sink.ensures)) c.end_into.ensures
