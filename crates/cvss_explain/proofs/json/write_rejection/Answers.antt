use Rattle.std.proofs.lemmas.Result.{on_ok_weaker}
use Rattle.cvss_explain.proofs.json.write_rejection.Goals as goal

pub returns : goal.returns
returns c =
    let added = rw (c.deref.ensures.value, c.in_ok-reason.ensures) at c.put_rejection.ensures in
    on_ok_weaker c.end_into.result (λ all. all _ (added.held _ c.begin_after-sink.ensures)) c.end_into.ensures
