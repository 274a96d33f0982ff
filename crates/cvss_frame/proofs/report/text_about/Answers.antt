use Rattle.std.proofs.lemmas.Result.{IfOk-weaker}
use Rattle.cvss_frame.proofs.report.text_about.Goals as goal

pub returns : goal.returns
returns c = IfOk-weaker c.end.result _ _ (λ text all. all _ (c.put_about.ensures.held _ c.new-text.ensures)) c.end.ensures
