use Rattle.std.proofs.lemmas.Result.{err_from_is_err_and}
use Rattle.cvss_text.proofs.PieceLemmas.{utf8_parts}
use Rattle.cvss_text.proofs.walk.read_component.Goals as goal

pub returns-in_err-kind-clause-rejected : goal.returns-in_err-kind-clause-rejected
returns-in_err-kind-clause-rejected g c =
    let exit = err_from_is_err_and c.from_residual.result c.from_residual.ensures.1 in
    rw (exit.1, exit.2) (c.in_err-kind.ensures.rejected c.args.vector.now)

pub returns-clause-printable : goal.returns-clause-printable
returns-clause-printable g c = λ is. c.put_component.ensures.printable (utf8_parts _ _ _ c.in_ok-kind.ensures.cut.cut is).1
