use Rattle.std.proofs.Common.{sym, ap, ◌∙◌}
use Rattle.std.proofs.lemmas.Bool.{cond-false, cond-true}
use Rattle.cvss_base.specs.Text.{has, slash}
use Rattle.cvss_matches.specs.Parts.{before_escape, encoded_front}
use Rattle.cvss_matches.proofs.part.unencoded.Goals as goal

pub returns-then-contains : goal.returns-then-contains
returns-then-contains c =
    let part = c.args.part.now in
    c.before_escape-front.ensures
    ∙ sym (cond-true (has slash (before_escape part)) (before_escape part) (encoded_front part)
    (ap (has slash) (sym c.before_escape-front.ensures) ∙ sym c.contains.ensures.value ∙ c.if-contains.true))

pub returns-else-contains : goal.returns-else-contains
returns-else-contains c =
    let part = c.args.part.now in
    c.encoded_front.ensures
    ∙ sym (cond-false (has slash (before_escape part)) (before_escape part) (encoded_front part)
    (ap (has slash) (sym c.before_escape-front.ensures) ∙ sym c.contains.ensures.value ∙ c.if-contains.false))
