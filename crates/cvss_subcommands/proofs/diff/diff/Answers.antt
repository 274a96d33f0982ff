use Rattle.std.proofs.Common.{subst, sym}
use Rattle.cvss_frame.specs.Operands.{ServesAll}
use Rattle.cvss_frame.specs.Streams.{state}
use Rattle.cvss_lines.specs.Runs.{Ends}
use Rattle.cvss_lists.specs.Differences.{difference_rule}
use Rattle.cvss_subcommands.specs.Comparing.{Compares}
use Rattle.cvss_subcommands.proofs.diff.diff.Goals as goal

pub returns : goal.returns
returns g c =
    let old = state c.args.streams.now in
    let new = state c.serve_operands.new.streams in
    let served = c.serve_operands.result in
    let others = c.in-Some.others.now in
    let allow = c.args.flags.allow_incomplete in
    let of_first = subst (λ first. ServesAll (λ prefix. Ends (difference_rule c.scoring.result allow first)) others old new served) c.deref.ensures.value c.serve_operands.ensures in
    let of_scoring = subst (λ scoring. ServesAll (λ prefix. Ends (difference_rule scoring allow c.in-Some.first.now.items)) others old new served) c.scoring.ensures of_first in
    subst (λ operands. Compares c.args.flags.base allow operands old new served) (sym c.in-Some.ensures.cases.0) of_scoring
