use Rattle.std.proofs.Common.{◌∙◌}
use Rattle.std.proofs.lemmas.List.{take_rest}
use Rattle.cvss_matches.proofs.PassLemmas.{passes_no_slash}
use Rattle.cvss_matches.proofs.matches.Matches.pass_no_slash.Goals as goal

pub returns-in-Some-clause-passes : goal.returns-in-Some-clause-passes
returns-in-Some-clause-passes c =
    let text = c.args.self.now.text.now in
    let offset = c.args.self.now.offset in
    let count = c.no_slash.ensures in
    passes_no_slash text _ offset c.no_slash.result (c.in-Some.ensures.lookup.0.2 ∙ take_rest text offset) count.within count.unmarked count.cut
