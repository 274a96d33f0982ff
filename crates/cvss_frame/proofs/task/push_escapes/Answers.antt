use Rattle.std.proofs.lemmas.Result.{on_ok_weaker}
use Rattle.cvss_frame.proofs.task.push_escapes.Goals as goal

pub returns : goal.returns
returns c = on_ok_weaker c.end_into.result (λ all. all _ (c.put_shown.ensures.held _ c.begin_after-shown.ensures)) c.end_into.ensures
