use Rattle.cvss_text.proofs.PieceLemmas.{cut_routed, first_utf8, utf8_parts}
use Rattle.cvss_text.proofs.route.route_by_front.Goals as goal

pub returns-in-Some-parts_of-clause-route : goal.returns-in-Some-parts_of-clause-route
returns-in-Some-parts_of-clause-route c =
    cut_routed c.args.text.now _ c.in-Some-parts_of.prefix.now c.in-Some-parts_of.reported.now c.in-Some.after.now _ _ c.front_of.ensures c.in-Some.ensures c.in-Some-parts_of.ensures c.route_by.ensures.route

pub returns-in-Some-parts_of-clause-printable : goal.returns-in-Some-parts_of-clause-printable
returns-in-Some-parts_of-clause-printable c = λ is.
    let piece = first_utf8 c.args.text.now _ _ c.front_of.ensures is in
    c.route_by.ensures.printable (utf8_parts _ _ _ c.in-Some-parts_of.ensures.cut piece).0 (utf8_parts _ _ _ c.in-Some-parts_of.ensures.cut piece).1
