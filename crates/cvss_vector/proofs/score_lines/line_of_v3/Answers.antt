use Rattle.std.proofs.Common.{refl, arith}
use Rattle.std.specs.Fmt.{digits}
use Rattle.cvss_vector.specs.declared.published.Bounds.TheVariants.{SinceV3}
use Rattle.cvss_vector.proofs.ScoreLineLemmas.{index-now, line_reported}
use Rattle.cvss_vector.proofs.score_lines.line_of_v3.Goals as goal

pub returns : goal.returns
unfolding digits
returns c = rw (index-now _ c.args.tenths _) (line_reported SinceV3 0 101 c.args.tenths c.args.tenths _ (omega (arith, c.requires)) (omega arith) refl)
