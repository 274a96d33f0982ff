use Rattle.std.proofs.lemmas.Result.{IfOk-weaker}
use Rattle.cvss_audit.proofs.written.said.quoted_text.Goals as goal

pub returns : goal.returns
returns c = IfOk-weaker c.end.result _ _ (λ bytes all. all _ (c.put_string.ensures.held _ c.new-sink.ensures)) c.end.ensures
