use Rattle.std.proofs.Common.{◌∙◌, Some, true, false, ap, inl, inr, sym}
use Rattle.std.specs.Fmt.{option_append}
use Rattle.cvss_lines.specs.Streaming.{StreamEnds}
use Rattle.cvss_audit.specs.Answers.{BeginsLine, IsLineAnswer}
use Rattle.cvss_audit.specs.Files.{is_by_line}
use Rattle.cvss_audit.specs.Inputs.{input_view}
use Rattle.cvss_audit.specs.Whole.{WholeEnds}
use Rattle.cvss_audit.proofs.EndsLemmas.{AnswersBy-beginning}
use Rattle.cvss_audit.proofs.documents.files.answer_file.Goals as goal

pub returns-then-by_line : goal.returns-then-by_line
returns-then-by_line g c =
    let input = input_view c.args.input in
    let unread' = g.R.Read.remaining c.read_beginning.new.reader in
    inl (AnswersBy-beginning (StreamEnds (IsLineAnswer input) (BeginsLine input)) true (g.R.Read.remaining c.args.reader.now) unread'
    (g.W.Write.contents c.args.writer.now) (g.W.Write.contents c.serve.new.writer) c.serve.result c.in_ok-beginning.beginning.items _ _
    c.in_ok-beginning.ensures.read
    (sym c.if-by_line.true ∙ c.in_ok-by_line.ensures ∙ ap is_by_line c.deref.ensures.value)
    (c.chain-whole.ensures.bytes ∙ ap (λ bytes. option_append (Some bytes) unread') c.as_slice.ensures.value)
    c.serve.ensures)

pub returns : goal.returns
returns g c =
    let unread' = g.R.Read.remaining c.read_beginning.new.reader in
    inr (inl (AnswersBy-beginning (WholeEnds (input_view c.args.input)) false (g.R.Read.remaining c.args.reader.now) unread'
    (g.W.Write.contents c.args.writer.now) (g.W.Write.contents c.answer_whole.new.writer) c.answer_whole.result c.in_ok-beginning.beginning.items _ _
    c.in_ok-beginning.ensures.read
    (sym c.if-by_line.false ∙ c.in_ok-by_line.ensures ∙ ap is_by_line c.deref.ensures.value)
    (c.chain-whole.ensures.bytes ∙ ap (λ bytes. option_append (Some bytes) unread') c.as_slice.ensures.value)
    c.answer_whole.ensures))
