use Rattle.std.proofs.Common.{◌∙◌, ap, inl, subst}
use Rattle.std.specs.Io.KnownBytes.{Appends}
use Rattle.cvss_subcommands.specs.Flags.{is_quiet}
use Rattle.cvss_subcommands.specs.Scoring.{header_if}
use Rattle.cvss_subcommands.proofs.score.serve_table.Goals as goal

pub returns-in-Ok : goal.returns-in-Ok
returns-in-Ok g c =
    let before = g.H.Output.Write.contents c.args.streams.now.output.writer in
    let after = g.H.Output.Write.contents c.write_whole.new.writer.writer in
    let is = c.as_bytes.ensures.value ∙ c.header_if-names.ensures ∙ ap (header_if (is_quiet c.args.gate)) c.are_many-many.ensures in
    inl (after, subst (λ text. Appends before after text) is c.in-Ok.ensures.ok, rw c.are_many-many.ensures at (rw c.tsv.ensures at c.serve_operands.ensures))
