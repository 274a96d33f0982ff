use Rattle.cvss_lines.proofs.LinesLemmas.{line_off}
use Rattle.cvss_lines.proofs.lines.first_line.Goals as goal

pub returns-in-Some : goal.returns-in-Some
returns-in-Some c = rw c.line_text.ensures (line_off _ _ _ c.in-Some.ensures.0 c.in-Some.ensures.1)
