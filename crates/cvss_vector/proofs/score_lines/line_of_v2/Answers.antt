use Rattle.std.proofs.Common.{◌-◌, refl, sym, ap, arith}
use Rattle.std.specs.Fmt.{digits}
use Rattle.cvss_vector.specs.declared.published.Bounds.TheVariants.{OfV2}
use Rattle.cvss_vector.specs.Published.{rated_line}
use Rattle.cvss_vector.proofs.ScoreLineLemmas.{index-now, line_reported}
use Rattle.cvss_vector.proofs.score_lines.line_of_v2.Goals as goal

pub returns-in-0 : goal.returns-in-0
unfolding digits
returns-in-0 c = ap (rated_line OfV2) (sym c.in-0.is)

pub returns-in-90-to-255 : goal.returns-in-90-to-255
unfolding digits
returns-in-90-to-255 c =
    rw (index-now _ (c.args.tenths - 90) _) (line_reported OfV2 90 11 (c.args.tenths - 90) c.args.tenths _ (omega (arith, c.requires, c.in-90-to-255)) (omega (arith, c.in-90-to-255)) refl)
