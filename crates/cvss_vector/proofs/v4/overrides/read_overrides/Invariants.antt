use Rattle.std.proofs.Common.{length}
use Rattle.cvss_vector.proofs.v4.OverridingLemmas.{HasReadOverrides}
use Rattle.cvss_vector.proofs.v4.overrides.read_overrides.Given as goal

abbrev pub invariant-loop-cut : goal.invariant-loop-cut
invariant-loop-cut g l = HasReadOverrides (g.T.Texts.texts l.fn.texts) (g.T.Texts.texts l.left) l.given

abbrev pub decreases-loop-cut : goal.decreases-loop-cut
decreases-loop-cut g l = length (g.T.Texts.texts l.left)
