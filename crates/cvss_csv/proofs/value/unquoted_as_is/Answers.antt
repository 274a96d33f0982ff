use Rattle.std.proofs.Common.{arith, inl, inr}
use Rattle.cvss_csv.proofs.ValueLemmas.{as_is}
use Rattle.cvss_csv.proofs.value.unquoted_as_is.Goals as goal

pub returns : goal.returns
returns c =
    let first = c.either_or_len-end.ensures in
    as_is c.args.inner.now c.either_or_len-end.result first.without_one (λ below. elim (first.found below) [ inl is ↦ is | inr is ↦ is ]) first.within (omega arith)
