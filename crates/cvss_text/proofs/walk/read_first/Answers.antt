use Rattle.std.proofs.Common.{subst, All, IsUtf8}
use Rattle.std.proofs.lemmas.List.Elements.{All-head}
use Rattle.std.proofs.lemmas.Result.{err_from_is_err_and}
use Rattle.cvss_text.proofs.PieceLemmas.{utf8_parts}
use Rattle.cvss_text.proofs.walk.read_first.Goals as goal

pub returns-in_err-kind-clause-rejected : goal.returns-in_err-kind-clause-rejected
returns-in_err-kind-clause-rejected g c =
    let exit = err_from_is_err_and c.from_residual.result c.from_residual.ensures.1 in
    rw (exit.1, exit.2) (c.in_err-kind.ensures.rejected c.args.vector.now)

pub returns-in_err-put_component-clause-printable : goal.returns-in_err-put_component-clause-printable
returns-in_err-put_component-clause-printable g c = λ is.
    let exit = err_from_is_err_and c.from_residual-in_err-put_component.result c.from_residual-in_err-put_component.ensures.1 in
    let cut = c.in_ok-kind.ensures.cut in
    let piece = All-head IsUtf8 _ _ (subst (All IsUtf8) cut.first is) in
    rw (exit.1, exit.2) (c.in_err-put_component.ensures.printable (utf8_parts _ _ _ cut.is.cut piece).1)
