use Rattle.std.proofs.Common.{◌∙◌}
use Rattle.std.proofs.lemmas.Result.{IfOk-weaker}
use Rattle.cvss_report.proofs.escaping.reason_of.Goals as goal

pub returns : goal.returns
returns c = IfOk-weaker c.end.result _ _ (λ reason all. all _ (c.put_segments.ensures.held _ c.new-reason.ensures) ∙ c.of.ensures.text) c.end.ensures
