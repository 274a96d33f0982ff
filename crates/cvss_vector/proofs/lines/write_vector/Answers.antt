use Rattle.std.proofs.Common.{◌∙◌}
use Rattle.std.proofs.lemmas.Result.{on_ok_weaker}
use Rattle.cvss_vector.proofs.AnsweringLemmas.{answer_written}
use Rattle.cvss_vector.proofs.lines.write_vector.Goals as goal

pub returns-in-Ok : goal.returns-in-Ok
returns-in-Ok c =
    on_ok_weaker c.push.result (answer_written c.args.vector.now c.args.published c.requires.rated _ _ _ _ c.in-Ok.ensures (c.as_bytes.ensures.value ∙ c.score_line.ensures)) c.push.ensures
