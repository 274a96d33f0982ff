use Rattle.std.proofs.lemmas.Fmt.{decimal_digit, decimal_step}
use Rattle.cvss_json.proofs.AddsLemmas.{join2}
use Rattle.cvss_json.proofs.number.+put_whole.Goals as goal

pub returns-then-number-lt10 : goal.returns-then-number-lt10
returns-then-number-lt10 g t c = rw (decimal_digit c.args.number c.if-number-lt10.true) c.push.ensures

pub returns-else-number-lt10 : goal.returns-else-number-lt10
returns-else-number-lt10 g t c =
    rw (decimal_step c.args.number c.if-number-lt10.false c.ranges.number.fits) (join2 c.put_whole.ensures c.push-else-number-lt10.ensures)
