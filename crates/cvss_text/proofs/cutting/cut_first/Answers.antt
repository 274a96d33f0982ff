use Rattle.std.proofs.Common.{ap, subst, All, IsUtf8}
use Rattle.std.proofs.lemmas.List.Elements.{All-head}
use Rattle.std.proofs.lemmas.Result.{err_from_is_err_and}
use Rattle.cvss_base.specs.Rejection.{piece_at}
use Rattle.cvss_text.proofs.WalkLemmas.{IsCutFirst-after}
use Rattle.cvss_text.proofs.cutting.cut_first.Goals as goal

pub returns-in-Some-clause-cut : goal.returns-in-Some-clause-cut
returns-in-Some-clause-cut g c =
    IsCutFirst-after g.V.Components.version g.met.V.Components.version_laws c.args.text.now _ _ _ _ c.in-Some.ensures c.front_of.ensures

pub returns-in_err-kind-clause-rejected : goal.returns-in_err-kind-clause-rejected
returns-in_err-kind-clause-rejected g c =
    let exit = err_from_is_err_and c.from_residual.result c.from_residual.ensures.1 in
    let first = ap (λ parts. piece_at parts 0) c.front_of-2.ensures in
    rw (exit.1, exit.2) (λ v is. rw first (c.in_err-kind.ensures.rejected v (rw first at is)))

pub returns-in_err-kind-clause-printable : goal.returns-in_err-kind-clause-printable
returns-in_err-kind-clause-printable g c = λ is.
    let exit = err_from_is_err_and c.from_residual.result c.from_residual.ensures.1 in
    rw (exit.1, exit.2) (c.in_err-kind.ensures.printable (All-head IsUtf8 _ _ (subst (All IsUtf8) c.front_of-2.ensures is)))
