use Rattle.std.proofs.Common.{◌≡◌, length}
use Rattle.cvss_text.specs.private.Walk.{HasReadTo}
use Rattle.cvss_text.proofs.setting.read_given.Given as goal

abbrev pub invariant-loop-cut : goal.invariant-loop-cut
invariant-loop-cut g l =
    HasReadTo g.V.Components.version (g.T.Texts.texts l.fn.texts) (g.T.Texts.texts l.left) l.given
    × (g.V.Components.version.front l.given ≡ g.V.Components.version.front l.fn.empty)

abbrev pub decreases-loop-cut : goal.decreases-loop-cut
decreases-loop-cut g l = length (g.T.Texts.texts l.left)
