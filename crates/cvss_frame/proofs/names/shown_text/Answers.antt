use Rattle.std.proofs.lemmas.Result.{IfOk-weaker}
use Rattle.cvss_frame.proofs.names.shown_text.Goals as goal

pub returns : goal.returns
returns c = IfOk-weaker c.end.result _ _ (λ text all. all _ (c.put_shown.ensures.held _ c.new-shown.ensures)) c.end.ensures
