use Rattle.std.proofs.Common.{arith, sym, ap, take, drop, take-append-drop, ◌∙◌}
use Rattle.cvss_matches.specs.Parts.{parts_of}
use Rattle.cvss_matches.proofs.AfterLemmas.{parts_after}
use Rattle.cvss_matches.proofs.PassLemmas.{unmarked_before}
use Rattle.cvss_matches.proofs.passing.no_slash.Goals as goal

pub returns-then-end-text-clause-unmarked : goal.returns-then-end-text-clause-unmarked
returns-then-end-text-clause-unmarked c = unmarked_before c.args.text.now c.either_or_len-end.result c.either_or_len-end.result c.either_or_len-end.ensures (omega arith)

pub returns-else-end-text-clause-unmarked : goal.returns-else-end-text-clause-unmarked
returns-else-end-text-clause-unmarked c = unmarked_before c.args.text.now c.either_or_len-end.result c.run_start.result c.either_or_len-end.ensures c.run_start.ensures.within

pub returns-else-end-text-clause-cut : goal.returns-else-end-text-clause-cut
returns-else-end-text-clause-cut c =
    let text = c.args.text.now in
    ap parts_of (sym (take-append-drop c.run_start.result text)) ∙ parts_after (take c.run_start.result text) (drop c.run_start.result text) c.run_start.ensures.start
