use Rattle.std.proofs.Common.{◌∙◌}
use Rattle.cvss_text.proofs.PrintLemmas.{texts-appended}
use Rattle.cvss_text.proofs.print.Printed.write_metrics.Goals as goal

pub returns : goal.returns
returns g c = c.write_each.ensures ∙ texts-appended g.Self.Components.version c.args.self.now c.args.buffer.now g.Self.Components.version.printed
