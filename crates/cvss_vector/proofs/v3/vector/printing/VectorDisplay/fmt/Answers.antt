use Rattle.std.proofs.Common.{refl, sym}
use Rattle.std.proofs.Output.{has_written_append, has_written_of_eq}
use Rattle.cvss_text.proofs.PrintLemmas.{joined-with_slash}
use Rattle.cvss_metric.specs.v3.Table.{printed}
use Rattle.cvss_vector.specs.v3.Vector.{v3}
use Rattle.cvss_vector.proofs.v3.vector.printing.VectorDisplay.fmt.Goals as goal

pub returns-clause-writes : goal.returns-clause-writes
returns-clause-writes g c = λ plain ok.
    let took = g.W.Write.write_str_gives in
    let version = c.in_ok-write_version.ensures plain refl in
    has_written_of_eq took c.args.f.now _ _ c.write_components.new.f (sym (joined-with_slash v3 c.args.self.now _ printed))
    (has_written_append took c.args.f.now _ _ _ _ version (c.write_components.ensures version.plain ok))
