use Rattle.std.proofs.Common.{◌+◌, ◌++◌, drop, map, sym, ap, ◌∙◌}
use Rattle.std.proofs.lemmas.List.{drop_more}
use Rattle.std.specs.List.{filter_map}
use Rattle.cvss_audit.specs.Objects.{missing_at}
use Rattle.cvss_base.specs.declared.v3.MetricType.TheVariants.{A}
use Rattle.cvss_audit.proofs.AddedLemmas.{added}
use Rattle.cvss_audit.proofs.written.missing.missing_v3.Goals as goal

pub loop-kind-preserved : goal.loop-kind-preserved
loop-kind-preserved c =
    let kinds = c.printed-kind-items.result.now in
    let i = c.loop-kind.kind-index in
    let missing = filter_map (missing_at c.args.vector.now) in
    let before = map (λ name. name.now) c.loop-kind.missing.items in
    ap (λ all. all ++ missing (drop (i + 1) kinds)) c.in_ok-push_missing.ensures
    ∙ added _ before (missing (drop (i + 1) kinds))
    ∙ ap (λ left. before ++ missing left) (sym (drop_more kinds i A c.loop-kind-test.true)) ∙ c.loop-kind.invariant
