use Rattle.std.proofs.Common.{refl}
use Rattle.cvss_vector.specs.v3.Vector.{v3}
use Rattle.cvss_text.proofs.InOrderLemmas.{IsBaseTo-turns}
use Rattle.cvss_vector.specs.v3.private.VectorLaws.{without_values}
use Rattle.cvss_vector.proofs.v3.vector.reading.VectorComponents.base_in_order.Goals as goal

pub returns : goal.returns
returns g c =
    let read = rw (c.in_ok-av.ensures, c.in_ok-ac.ensures, c.in_ok-ui.ensures, c.in_ok-c.ensures, c.in_ok-a.ensures) at c.in_ok-after_three.ensures in
    rw (without_values c.args.self c.requires) (IsBaseTo-turns v3 8 (rw read refl) refl refl refl refl)
