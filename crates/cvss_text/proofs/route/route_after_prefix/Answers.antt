use Rattle.std.proofs.Common.{codes, refl}
use Rattle.cvss_text.specs.Route.{ToV30, ToV31, ToV40}
use Rattle.cvss_text.proofs.PieceLemmas.{said_routed}
use Rattle.cvss_text.proofs.route.route_after_prefix.Goals as goal

pub returns-then-are_four-clause-route : goal.returns-then-are_four-clause-route
returns-then-are_four-clause-route c = λ text is.
    said_routed text _ _ (codes "3.1") _ ToV31 is c.in_ok-version.ensures (c.if-are_four.ensures refl) refl refl

pub returns-then-are_four-2-clause-route : goal.returns-then-are_four-2-clause-route
returns-then-are_four-2-clause-route c = λ text is.
    said_routed text _ _ (codes "4.0") _ ToV40 is c.in_ok-version.ensures (c.if-are_four-2.ensures refl) refl refl

pub returns-then-are_four-3-clause-route : goal.returns-then-are_four-3-clause-route
returns-then-are_four-3-clause-route c = λ text is.
    said_routed text _ _ (codes "3.0") _ ToV30 is c.in_ok-version.ensures (c.if-are_four-3.ensures refl) refl refl
