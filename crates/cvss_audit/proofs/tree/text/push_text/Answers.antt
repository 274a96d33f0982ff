use Rattle.std.proofs.Common.{◌++◌, ap, ◌∙◌, subst}
use Rattle.std.proofs.lemmas.Result.{on_ok_weaker}
use Rattle.cvss_audit.proofs.PrintsLemmas.{string_quoted}
use Rattle.cvss_audit.specs.Texts.{IsTextOf}
use Rattle.cvss_audit.proofs.tree.text.push_text.Goals as goal

pub returns-clause-quoted : goal.returns-clause-quoted
returns-clause-quoted c =
    on_ok_weaker c.push_value.result
    (λ pushed.
    pushed.written
    ∙ ap (λ text. c.args.answers.now.bytes.items ++ text)
    (string_quoted c.args.text.now pushed.text (subst (λ value. IsTextOf value pushed.text) c.in_ok-try_from_str.ensures pushed.is_text)))
    c.push_value.ensures
