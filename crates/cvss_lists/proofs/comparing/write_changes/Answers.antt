use Rattle.std.proofs.Common.{◌++◌, ◌∙◌, ap, arith, flat_map}
use Rattle.std.proofs.lemmas.List.{take_all}
use Rattle.cvss_lines.specs.Answers.{written_text}
use Rattle.cvss_lists.specs.Differences.{change_at}
use Rattle.cvss_lists.proofs.DifferenceLemmas.{changes_written}
use Rattle.cvss_lists.proofs.comparing.write_changes.Goals as goal

pub returns : goal.returns
returns g c =
    let version = g.V.Components.version in
    let all = take_all c.loop-kind.kind-index c.printed-kind-items.result.now (omega (arith, c.loop-kind-test.false)) ∙ c.printed-kind-items.ensures in
    changes_written version c.args.before.now c.args.after.now _ _ (c.loop-kind.invariant
    ∙ ap (λ kinds. c.args.answers.now.bytes.items ++ flat_map (λ kind. flat_map written_text (change_at version c.args.before.now c.args.after.now kind)) kinds) all)
