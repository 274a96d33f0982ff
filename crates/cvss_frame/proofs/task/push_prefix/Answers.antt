use Rattle.std.proofs.Common.{◌++◌, ◌∙◌, ap, sym, append-nil}
use Rattle.cvss_frame.proofs.NamesLemmas.{none_shown}
use Rattle.cvss_frame.proofs.task.push_prefix.Goals as goal

pub returns-in-empty : goal.returns-in-empty
returns-in-empty c =
    sym (append-nil c.args.answers.now.bytes.items)
    ∙ ap (λ bytes. c.args.answers.now.bytes.items ++ bytes) (sym (none_shown c.args.prefix.now c.in-empty.len_below))
