use Rattle.std.proofs.Common.{Ok, inl, rules, subst, sym}
use Rattle.cvss_frame.specs.Streams.{state}
use Rattle.cvss_lists.specs.Shown.{IsShown}
use Rattle.cvss_subcommands.specs.Done.{Answers, SetsGiven}
use Rattle.cvss_subcommands.specs.Scoring.{AnswersLines}
use Rattle.cvss_subcommands.specs.Setting.{set_rule}
use Rattle.cvss_subcommands.proofs.command.set_given.Goals as goal

pub returns : goal.returns
returns g c =
    let a = c.args in
    let old = state a.streams.now in
    let new = state c.serve_operands.new.streams in
    let result = Ok c.serve_operands.result in
    let answers : Answers (AnswersLines (IsShown (set_rule c.scoring.result a.options.flags.allow_incomplete c.in-Ok.metrics.now))) a.options a.arguments.now old new result = search rules in
    let of_given = subst (λ metrics. Answers (AnswersLines (IsShown (set_rule c.scoring.result a.options.flags.allow_incomplete metrics))) a.options a.arguments.now old new result) c.in-Ok.ensures.cases.0 answers in
    let of_scoring = subst (λ scoring. Answers (AnswersLines (IsShown (set_rule scoring a.options.flags.allow_incomplete c.in-Some.metrics.now))) a.options a.arguments.now old new result) c.scoring.ensures of_given in
    subst (λ given. SetsGiven given a.options a.arguments.now old new result) (sym c.in-Some.ensures.cases.0) (inl of_scoring)
