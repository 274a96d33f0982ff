use Rattle.std.proofs.Common.{arith}
use Rattle.cvss_lines.proofs.LinesLemmas.{first_ends, none_ends}
use Rattle.cvss_lines.proofs.lines.cut_at_line_end.Goals as goal

pub returns-then-end-bytes : goal.returns-then-end-bytes
returns-then-end-bytes c = none_ends c.args.bytes.now _ c.either_or_len-end.ensures c.if-end-bytes.true

pub returns : goal.returns
returns c = first_ends c.args.bytes.now _ c.either_or_len-end.ensures (omega (arith, c.either_or_len-end.ensures.within, c.if-end-bytes.false))
