use Rattle.std.proofs.Common.{◌≤◌, length, subst, sym, ◌∙◌, ap}
use Rattle.std.specs.Prelude.{unwrap_or}
use Rattle.cvss_matches.proofs.LabelLemmas.{label_bound}
use Rattle.cvss_matches.proofs.matching.label_of.Goals as goal

pub returns-else-begins_with_prefix-clause-within : goal.returns-else-begins_with_prefix-clause-within
returns-else-begins_with_prefix-clause-within c =
    let text = c.args.text.now in
    subst (λ count. count ≤ length text) (sym (c.unwrap_or.ensures ∙ ap (λ found. unwrap_or found 0) c.label_length.ensures)) (label_bound text)
