use Rattle.std.proofs.Common.{◌++◌, drop, ap, ◌∙◌}
use Rattle.cvss_text.proofs.PrintLemmas.{joined_after_first}
use Rattle.cvss_text.specs.private.Printing.{texts_with_slash}
use Rattle.cvss_metric.specs.v2.Table.{printed}
use Rattle.cvss_vector.specs.v2.Vector.{v2}
use Rattle.cvss_vector.proofs.v2.vector.Vector.text.Goals as goal

pub returns : goal.returns
returns c =
    c.after_first.ensures
    ∙ ap (drop 1) (c.write_metrics.ensures ∙ ap (λ begun. begun ++ texts_with_slash v2 c.args.self.now printed) c.requires)
    ∙ joined_after_first v2 c.args.self.now printed
