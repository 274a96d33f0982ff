use Rattle.std.proofs.Common.{sym, ap, ◌∙◌}
use Rattle.cvss_audit.specs.Files.{first_line}
use Rattle.cvss_audit.proofs.FilesLemmas.{all_kept, to_end}
use Rattle.cvss_audit.proofs.documents.files.first_text.Goals as goal

pub returns-in-Some : goal.returns-in-Some
returns-in-Some c =
    sym (ap first_line (sym c.without_blanks-text.ensures ∙ c.in-Some.ensures.1)
    ∙ to_end c.in-Some.line.now _ c.in-Some.ensures.0)

pub returns-in-None : goal.returns-in-None
returns-in-None c =
    sym (ap first_line (sym c.without_blanks-text.ensures)
    ∙ all_kept c.without_blanks-text.result.now c.in-None.ensures)
