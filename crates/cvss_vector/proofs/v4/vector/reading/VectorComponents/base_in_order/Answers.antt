use Rattle.std.proofs.Common.{refl}
use Rattle.cvss_vector.specs.v4.Vector.{v4}
use Rattle.cvss_text.proofs.InOrderLemmas.{IsBaseTo-turns}
use Rattle.cvss_vector.specs.v4.private.VectorLaws.{without_values}
use Rattle.cvss_vector.proofs.v4.vector.reading.VectorComponents.base_in_order.Goals as goal

pub returns : goal.returns
returns g c =
    let read = rw (c.in_ok-av.ensures, c.in_ok-ac.ensures, c.in_ok-pr.ensures, c.in_ok-vc.ensures, c.in_ok-va.ensures, c.in_ok-si.ensures) at c.in_ok-after_three.ensures in
    rw (without_values c.args.self c.requires) (IsBaseTo-turns v4 11 (rw read refl) refl refl tt refl)
