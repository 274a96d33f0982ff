use Rattle.std.proofs.Common.{inl, inr, refl}
use Rattle.cvss_subcommands.proofs.setting.vector_with.Goals as goal

pub returns-in-Err-clause-rejected : goal.returns-in-Err-clause-rejected
returns-in-Err-clause-rejected c =
    inr (inl (record { utf8 = c.in_ok-vector.ensures.utf8; vector = c.in_ok-vector.vector; denoted = c.in_ok-vector.ensures.denoted; index = c.in-Err.error.index; rejection = c.in-Err.error.reason; first = c.in-Err.ensures.rejected; is = refl }))
