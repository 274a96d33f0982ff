use Rattle.std.proofs.Common.{◌∙◌, refl}
use Rattle.cvss_text.specs.private.Walk.{reason_of}
use Rattle.cvss_text.proofs.SettingLemmas.{HasReadTo-most, IsFirstWrong-at}
use Rattle.cvss_text.proofs.WalkLemmas.{HasReadTo-more, HasReadTo-start}
use Rattle.cvss_text.proofs.setting.read_given.Goals as goal

pub loop-cut-init : goal.loop-cut-init
loop-cut-init g c = (HasReadTo-start g.V.Components.version g.met.V.Components.version_laws (g.T.Texts.texts c.args.texts) c.args.empty c.requires, refl)

pub loop-cut-preserved : goal.loop-cut-preserved
loop-cut-preserved g c =
    let before = c.loop-cut.invariant in
    let adds = c.in_default-read_one.ensures.read in (
      HasReadTo-more g.V.Components.version g.met.V.Components.version_laws (g.T.Texts.texts c.args.texts) _ c.loop-cut.given before.0 c.read_one.new.given c.in-Some.cut.0.now _ c.in-Some.ensures.cut adds,
      adds.puts.front ∙ before.1,
    )

pub returns-in-Err-clause-rejected : goal.returns-in-Err-clause-rejected
returns-in-Err-clause-rejected g c =
    let version = g.V.Components.version in
    IsFirstWrong-at version g.met.V.Components.version_laws (g.T.Texts.texts c.args.texts) _ c.loop-cut.given c.loop-cut.invariant.0 _ _ c.count.ensures c.count-in-Err.ensures _ _ c.in-Some.ensures.cut (reason_of version c.in-Err.fault) c.in-Err.ensures.rejected

pub returns-in-Err-clause-bound : goal.returns-in-Err-clause-bound
returns-in-Err-clause-bound g c =
    HasReadTo-most g.V.Components.version g.met.V.Components.version_laws (g.T.Texts.texts c.args.texts) _ c.loop-cut.given c.loop-cut.invariant.0 _ _ c.count.ensures c.count-in-Err.ensures

pub returns-in-Err-clause-printable : goal.returns-in-Err-clause-printable
returns-in-Err-clause-printable g c = λ is.
    c.in-Err.ensures.printable (c.in-Some.ensures.utf8 is)
