use Rattle.std.proofs.lemmas.Result.{IfOk-weaker}
use Rattle.cvss_triage.proofs.messages.unknown_line_text.Goals as goal

pub returns : goal.returns
returns c =
    IfOk-weaker c.end.result _ _
    (λ text all. all _ (c.put_unknown.ensures.held _ (c.put_location.ensures.held _ (c.push.ensures.held _ c.new-text.ensures))))
    c.end.ensures
