use Rattle.std.proofs.Common.{true}
use Rattle.std.proofs.lemmas.Result.{IfOk-weaker}
use Rattle.cvss_vector.proofs.AnsweringLemmas.{published_written}
use Rattle.cvss_vector.proofs.answering.answer_score.Goals as goal

pub write_canonical-requires : goal.write_canonical-requires
write_canonical-requires c = (c.in-Some.ensures c.args.allow_incomplete).of.is.to_ten

pub returns-in-Some : goal.returns-in-Some
returns-in-Some c = λ number.
    published_written c.args.scoring c.args.allow_incomplete number c.args.line.now _ true _ (c.args.line.now, c.in-Some.published, c.in-Some.ensures c.args.allow_incomplete, c.in_ok-write_canonical.ensures)

pub returns-in-Unversioned : goal.returns-in-Unversioned
returns-in-Unversioned c = λ number.
    IfOk-weaker c.reject.result _ _ (λ is. published_written c.args.scoring c.args.allow_incomplete number c.args.line.now _ is _) (c.reject.ensures c.args.scoring)
