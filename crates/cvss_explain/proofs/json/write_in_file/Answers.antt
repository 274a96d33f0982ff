use Rattle.std.proofs.lemmas.Result.{on_ok_weaker}
use Rattle.cvss_explain.proofs.json.write_in_file.Goals as goal

pub returns : goal.returns
returns c = on_ok_weaker c.end_into.result (λ all. all _ (c.put_in_file.ensures.held _ c.begin_after-sink.ensures)) c.end_into.ensures
