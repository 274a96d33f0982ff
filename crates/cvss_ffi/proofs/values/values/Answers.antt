use Rattle.std.proofs.Common.{Some, arith, inl, refl}
use Rattle.cvss_ffi.proofs.values.values.Goals as goal

pub returns : goal.returns
returns c = inl (
  omega (arith, c.if-values-lt-VALUES_SIZE.false),
  (Some c.of.result, record { cvss = c.in-Some.cvss; is = c.in-Some.ensures.accepted; holds = c.of.ensures }, (refl, refl)),
)
