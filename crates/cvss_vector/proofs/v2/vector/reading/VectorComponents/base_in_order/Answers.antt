use Rattle.std.proofs.Common.{refl}
use Rattle.cvss_vector.specs.v2.Vector.{v2}
use Rattle.cvss_text.proofs.InOrderLemmas.{IsBaseTo-turns}
use Rattle.cvss_vector.specs.v2.private.VectorLaws.{without_values}
use Rattle.cvss_vector.proofs.v2.vector.reading.VectorComponents.base_in_order.Goals as goal

pub returns : goal.returns
returns g c =
    let read = rw (c.in_ok-av.ensures, c.in_ok-ac.ensures, c.in_ok-c.ensures, c.in_ok-a.ensures) at c.in_ok-after_three.ensures in
    rw (without_values c.args.self c.requires) (IsBaseTo-turns v2 6 (rw read refl) refl refl tt refl)
