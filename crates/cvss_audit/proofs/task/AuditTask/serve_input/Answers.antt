use Rattle.std.proofs.Common.{None, Option, List, ℕ, sym, subst}
use Rattle.cvss_audit.specs.Files.{FileEnds}
use Rattle.cvss_audit.specs.Inputs.{Input}
use Rattle.cvss_audit.specs.Task.{ends_by, input_of}
use Rattle.cvss_audit.specs.Whole.{WholeEnds}
use Rattle.cvss_audit.specs.declared.task.Asked.{Asked}
use Rattle.cvss_audit.proofs.task.AuditTask.serve_input.Goals as goal

-- the input of the file whose name is known
abbrev named : Asked → Option (List ℕ) → Input
named asked file = record { file = file; line = None; allow_incomplete = asked.allow_incomplete; form = asked.form; gate = asked.gate }

pub returns-in-Whole : goal.returns-in-Whole
returns-in-Whole g c =
    let asked = c.args.self.now.asked in
    let unread = g.R.Read.remaining c.args.reader.now in
    let unread' = g.R.Read.remaining c.answer_whole.new.reader in
    let written = g.W.Write.contents c.args.writer.now in
    let written' = g.W.Write.contents c.answer_whole.new.writer in
    subst (λ layout. ends_by layout (input_of asked c.args.prefix.now) unread unread' written written' c.answer_whole.result) (sym c.in-Whole.is)
    (subst (λ file. WholeEnds (named asked file) unread unread' written written' c.answer_whole.result) c.file_of.ensures c.answer_whole.ensures)

pub returns-in-Either : goal.returns-in-Either
returns-in-Either g c =
    let asked = c.args.self.now.asked in
    let unread = g.R.Read.remaining c.args.reader.now in
    let unread' = g.R.Read.remaining c.answer_file.new.reader in
    let written = g.W.Write.contents c.args.writer.now in
    let written' = g.W.Write.contents c.answer_file.new.writer in
    subst (λ layout. ends_by layout (input_of asked c.args.prefix.now) unread unread' written written' c.answer_file.result) (sym c.in-Either.is)
    (subst (λ file. FileEnds (named asked file) unread unread' written written' c.answer_file.result) c.file_of.ensures c.answer_file.ensures)
