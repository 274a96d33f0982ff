use Rattle.std.proofs.Common.{refl, subst, sym, take, ◌∙◌}
use Rattle.cvss_csv.specs.private.Cutting.{IsWithin}
use Rattle.cvss_csv.proofs.CuttingLemmas.{outside_passes, quoted_passes}
use Rattle.cvss_csv.proofs.cutting.pass_run.Goals as goal

pub returns-then-is_quoted-clause-passed : goal.returns-then-is_quoted-clause-passed
returns-then-is_quoted-clause-passed c =
    quoted_passes c.args.delimiter c.args.state c.args.bytes.now c.either_or_len.result (sym c.is_quoted.ensures ∙ c.if-is_quoted.true) c.either_or_len.ensures

pub returns-clause-passed : goal.returns-clause-passed
returns-clause-passed c =
    subst (IsWithin c.args.delimiter c.args.state (take c.either_or_len-run.result c.args.bytes.now)) (sym c.after_unquoted.ensures)
    (outside_passes c.args.delimiter c.args.state c.args.bytes.now c.either_or_len-run.result _ (sym c.is_quoted.ensures ∙ c.if-is_quoted.false) c.either_or_len-run.ensures c.if-run-eq0.false refl)
