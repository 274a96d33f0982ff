use Rattle.cvss_lists.proofs.TrimmedLemmas.{empty_answer}
use Rattle.cvss_lists.proofs.trimmed.Trimmed.answer_text.Goals as goal

pub returns-in_ok-push-in-empty : goal.returns-in_ok-push-in-empty
returns-in_ok-push-in-empty g c =
    empty_answer (g.A.Answering.rule c.args.self.now.answer) c.args.number c.args.text.now _ _ c.in-empty.len_below c.in_ok-push-in-empty.ensures
