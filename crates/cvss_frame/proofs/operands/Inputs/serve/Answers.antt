use Rattle.std.proofs.Common.{◌∙◌, sym}
use Rattle.cvss_frame.proofs.OperandsLemmas.{Serves-stop}
use Rattle.cvss_frame.specs.Streams.{state}
use Rattle.cvss_frame.proofs.operands.Inputs.serve.Goals as goal

pub returns-then-is_some : goal.returns-then-is_some
returns-then-is_some g c =
    c.loop-operand.invariant (state c.serve_operand.new.streams) c.after-served.result
    (Serves-stop _ _ c.in-Some.operand.now _ c.in-Some.rest.now _ _ _ _ _ c.serve_operand.result c.in-Some.ensures.cases.0 c.deref.ensures.value c.serve_operand.ensures c.after-served.ensures
    (sym c.is_some.ensures ∙ c.if-is_some.true))
