use Rattle.std.proofs.lemmas.Result.{on_ok_weaker}
use Rattle.cvss_triage.proofs.rows.write_first_members.Goals as goal

pub returns : goal.returns
returns c = on_ok_weaker c.end_into.result (λ all. all _ (c.put_first_members.ensures.held _ c.begin_after-sink.ensures)) c.end_into.ensures
