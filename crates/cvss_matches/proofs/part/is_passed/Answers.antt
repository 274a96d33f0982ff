use Rattle.std.proofs.Common.{arith, eqb, get_or, not, refl, ◌&&◌}
use Rattle.std.proofs.lemmas.Bool.{agree_below_at}
use Rattle.cvss_matches.specs.Parts.{is_like, is_run_byte}
use Rattle.cvss_matches.specs.declared.part.TheConstants.{MARKS}
use Rattle.cvss_matches.proofs.part.is_passed.Goals as goal

pub returns : goal.returns
returns c = agree_below_at (λ byte. eqb (get_or MARKS byte 0) 0) (λ byte. is_run_byte byte && not (is_like 67 byte)) 256 c.args.byte refl (omega (arith, c.ranges.byte))
