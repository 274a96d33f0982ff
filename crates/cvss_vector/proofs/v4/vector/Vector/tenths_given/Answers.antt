use Rattle.std.proofs.Common.{refl}
use Rattle.cvss_vector.proofs.v4.AloneLemmas.{score_alone}
use Rattle.cvss_vector.proofs.v4.vector.Vector.tenths_given.Goals as goal

pub returns-then-has_base_alone-clause-value : goal.returns-then-has_base_alone-clause-value
returns-then-has_base_alone-clause-value c =
    score_alone c.args.self.now (c.if-has_base_alone.ensures refl) c.args.nomenclature _ c.requires.own
