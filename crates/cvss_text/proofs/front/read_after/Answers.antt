use Rattle.std.proofs.Common.{Ok, Err}
use Rattle.cvss_text.specs.declared.walk.Fault.TheVariants.{InvalidComponent}
use Rattle.cvss_text.specs.private.Walk.{reason_of}
use Rattle.cvss_text.proofs.FrontLemmas.{IsAnswer-rejected, IsAnswerAfter-left, decided_after, front_fault_first}
use Rattle.cvss_text.proofs.PieceLemmas.{IsUtf8-bad, IsUtf8-pieces, first_utf8}
use Rattle.cvss_text.proofs.front.read_after.Goals as goal

pub returns-in-Ok-read_left : goal.returns-in-Ok-read_left
returns-in-Ok-read_left g c =
    IsAnswerAfter-left g.V.Components.version g.met.V.Components.version_laws g.met.V.Prefixed.plain c.args.text.now _ _ c.front_of.ensures c.in-Ok.vector c.in-Ok.ensures.started (Ok tt) c.read_left.new.vector c.in-Ok-read_left.ensures

pub returns-in-Err-read_left : goal.returns-in-Err-read_left
returns-in-Err-read_left g c =
    IsAnswerAfter-left g.V.Components.version g.met.V.Components.version_laws g.met.V.Prefixed.plain c.args.text.now _ _ c.front_of.ensures c.in-Ok.vector c.in-Ok.ensures.started (Err c.in-Err-read_left.fault) c.read_left.new.vector c.in-Err-read_left.ensures

pub returns-in-Some : goal.returns-in-Some
returns-in-Some g c =
    let text = c.args.text.now in
    IsAnswer-rejected (decided_after g.V.Components.version g.met.V.Components.version_laws g.met.V.Prefixed.plain text) (InvalidComponent c.in-Some.piece) c.in-Some.ensures (λ utf8. IsUtf8-bad c.in-Some.ensures (IsUtf8-pieces text utf8))

pub returns-in-None : goal.returns-in-None
returns-in-None g c =
    let version = g.V.Components.version in
    let text = c.args.text.now in
    IsAnswer-rejected (decided_after version g.met.V.Components.version_laws g.met.V.Prefixed.plain text) c.in-Err.fault
    (front_fault_first version text _ _ c.front_of.ensures c.in-None.ensures (reason_of version c.in-Err.fault) c.in-Err.ensures.rejected)
    (λ utf8. c.in-Err.ensures.printable (first_utf8 text _ _ c.front_of.ensures utf8))
