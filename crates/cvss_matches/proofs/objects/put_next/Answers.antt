use Rattle.std.proofs.Common.{◌≡◌, ◌+◌, arith, codes, decimal, refl, subst}
use Rattle.std.specs.Fmt.{digits}
use Rattle.cvss_json.specs.Sinks.{Adds}
use Rattle.cvss_matches.proofs.objects.put_next.Goals as goal

largest : codes "18446744073709551616" ≡ decimal 18446744073709551616
unfolding digits
largest = refl

-- the largest number has none after it of its type
pub returns-in-None : goal.returns-in-None
returns-in-None g c =
    let full : c.args.number + 1 ≡ 18446744073709551616 = omega (arith, c.in-None.ensures, c.ranges.number.fits) in
    rw full (subst (λ text. Adds g.S.Sink.Holds text c.args.sink.now c.push.new.self) largest c.push.ensures)
