use Rattle.std.proofs.Common.{◌≡◌, ◌++◌, drop, flat_map}
use Rattle.cvss_explain.specs.Lines.{metric_text}
use Rattle.cvss_explain.proofs.metrics.write_metrics.Given as goal

abbrev pub invariant-loop-kind : goal.invariant-loop-kind
invariant-loop-kind g l =
    let text = metric_text g.V.Components.version g.V.Explained.description g.V.Explained.words (g.V.Explained.figure l.vector l.class) l.vector in
    l.answers.bytes.items ++ flat_map text (drop l.kind-index l.kinds) ≡ l.fn.answers.bytes.items ++ flat_map text l.kinds
