use Rattle.cvss_vector.proofs.AnsweringLemmas.{error_written}
use Rattle.cvss_subcommands.specs.Setting.{IsSetBy, IsSetError}
use Rattle.cvss_subcommands.proofs.setting.SetAnswering.answer_line.Goals as goal

pub returns-in_ok-write_error-in-Err : goal.returns-in_ok-write_error-in-Err
returns-in_ok-write_error-in-Err c =
    let set = c.args.self.now in
    error_written set.scoring (IsSetBy set.allow_incomplete set.metrics.now) (IsSetError set.allow_incomplete set.metrics.now) c.args._number c.args.line.now _ _
    c.in-Err.error c.in-Err.ensures.rejected c.in_ok-write_error-in-Err.ensures
