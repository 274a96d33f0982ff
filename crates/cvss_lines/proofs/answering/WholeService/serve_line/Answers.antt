use Rattle.std.proofs.Common.{rules}
use Rattle.cvss_lines.proofs.answering.WholeService.serve_line.Goals as goal

pub returns-in_err-answer_line-clause-stopped : goal.returns-in_err-answer_line-clause-stopped
returns-in_err-answer_line-clause-stopped g c = search rules
