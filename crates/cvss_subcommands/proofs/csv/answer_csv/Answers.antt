use Rattle.std.proofs.Common.{subst}
use Rattle.cvss_csv.specs.Tasks.{TaskEnds}
use Rattle.cvss_frame.specs.Operands.{ServesAll}
use Rattle.cvss_frame.specs.Streams.{state}
use Rattle.cvss_subcommands.specs.Columns.{IsColumn}
use Rattle.cvss_subcommands.proofs.csv.answer_csv.Goals as goal

pub returns : goal.returns
returns g c =
    let column = c.column_of-column.result in
    let found = c.serve_operands-found.result in
    let served = state c.serve_operands-found.new.streams in
    record {
      given = column;
      is_given = subst (λ text. IsColumn text column) c.column_text.ensures c.column_of-column.ensures;
      middle = served.reported;
      found = found;
      answered = subst (λ asked. ServesAll (λ prefix. TaskEnds asked column) c.args.operands.now (state c.args.streams.now) served found) c.asked_of.ensures c.serve_operands-found.ensures;
      missed = c.miss.ensures;
    }
