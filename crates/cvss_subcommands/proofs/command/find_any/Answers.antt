use Rattle.std.proofs.Common.{subst, sym}
use Rattle.cvss_frame.specs.Streams.{state}
use Rattle.cvss_subcommands.specs.Done.{FindsOf}
use Rattle.cvss_subcommands.proofs.command.find_any.Goals as goal

pub returns-then-flags : goal.returns-then-flags
returns-then-flags g c =
    subst (λ csv. FindsOf csv c.args.flags c.args.words.now c.args.operands.now (state c.args.streams.now) (state c.answer_csv.new.streams) c.answer_csv.result)
    (sym c.if-flags.true) c.answer_csv.ensures
