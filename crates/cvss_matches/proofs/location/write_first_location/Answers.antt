use Rattle.std.proofs.Common.{◌++◌, codes, ap, ◌∙◌, decimal}
use Rattle.std.proofs.lemmas.Fmt.{contents_after_writes}
use Rattle.cvss_matches.proofs.ReportingLemmas.{first_location}
use Rattle.cvss_lines.specs.declared.buffered.OutputBuffer.{OutputBuffer}
use Rattle.cvss_matches.proofs.location.write_first_location.Goals as goal

pub returns-in-Ok : goal.returns-in-Ok
returns-in-Ok c =
    contents_after_writes _ (λ (answers : OutputBuffer). answers.bytes.items) (λ old bytes new is. is) c.args.answers.now (decimal c.args.number ++ codes ":1 ") c.write.new.self c.in-Ok.ensures.writes
    ∙ ap (λ bytes. c.args.answers.now.bytes.items ++ bytes) (first_location c.args.number)
