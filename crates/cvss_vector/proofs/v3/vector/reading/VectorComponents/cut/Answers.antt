use Rattle.std.proofs.Common.{arith}
use Rattle.cvss_text.proofs.LawLemmas.{IsCut_at}
use Rattle.cvss_vector.specs.v3.Vector.{v3}
use Rattle.cvss_vector.specs.v3.private.VectorLaws.{v3_laws}
use Rattle.cvss_vector.proofs.v3.vector.reading.VectorComponents.cut.Goals as goal

pub returns-in_ok-named_by_one-in-58 : goal.returns-in_ok-named_by_one-in-58
returns-in_ok-named_by_one-in-58 c = IsCut_at v3 v3_laws c.args.piece.now 1 _ (grind arith) c.in_ok-named_by_one-in-58.ensures

pub returns-in_ok-named_by_two-in-58-2 : goal.returns-in_ok-named_by_two-in-58-2
returns-in_ok-named_by_two-in-58-2 c = IsCut_at v3 v3_laws c.args.piece.now 2 _ (grind arith) c.in_ok-named_by_two-in-58-2.ensures

pub returns-in_ok-named_by_three-in-58-3 : goal.returns-in_ok-named_by_three-in-58-3
returns-in_ok-named_by_three-in-58-3 c = IsCut_at v3 v3_laws c.args.piece.now 3 _ (omega arith) c.in_ok-named_by_three-in-58-3.ensures
