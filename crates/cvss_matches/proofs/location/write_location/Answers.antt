use Rattle.std.proofs.lemmas.Fmt.{contents_after_writes}
use Rattle.cvss_matches.specs.Answers.{location_text}
use Rattle.cvss_lines.specs.declared.buffered.OutputBuffer.{OutputBuffer}
use Rattle.cvss_matches.proofs.location.write_location.Goals as goal

pub returns-in-Ok : goal.returns-in-Ok
returns-in-Ok c =
    contents_after_writes _ (λ (answers : OutputBuffer). answers.bytes.items) (λ old bytes new is. is) c.args.answers.now (location_text c.args.number c.args.offset) c.write.new.self
    c.in-Ok.ensures.writes
