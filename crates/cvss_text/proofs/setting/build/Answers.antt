use Rattle.std.proofs.Common.{Some, None, sym}
use Rattle.cvss_base.specs.Text.{pieces}
use Rattle.cvss_text.specs.declared.walk.Fault.TheVariants.{MissingMandatoryMetric}
use Rattle.cvss_text.proofs.WalkLemmas.{IsComplete-from, IsFirstMissing-from}
use Rattle.cvss_text.proofs.SettingLemmas.{IsAnswered-Err, IsAnswered-Ok, build_sole, right_all}
use Rattle.cvss_text.proofs.setting.build.Goals as goal

pub returns-in-Some : goal.returns-in-Some
returns-in-Some g c =
    let version = g.V.Components.version in
    let version_laws = g.met.V.Components.version_laws in
    let parts = pieces c.args.text.now in
    let components = rw (c.pieces_of.ensures, c.as_bytes.ensures.value) at c.in-Ok.ensures.components in
    let missing = IsFirstMissing-from version version_laws parts c.in-Ok.given components c.in-Some.kind c.in-Some.ensures in
    IsAnswered-Err version (build_sole version version_laws (version.front c.args.empty) parts) None (MissingMandatoryMetric c.in-Some.kind) (right_all version version_laws c.in-Ok.given parts components, missing) tt

pub returns-in-None : goal.returns-in-None
returns-in-None g c =
    let version = g.V.Components.version in
    IsAnswered-Ok version (build_sole version g.met.V.Components.version_laws (version.front c.args.empty) (pieces c.args.text.now)) c.in-Ok.given
    (record { front_is = c.in-Ok.ensures.front; components = rw (c.pieces_of.ensures, c.as_bytes.ensures.value) at c.in-Ok.ensures.components; complete = IsComplete-from version c.in-Ok.given (sym c.in-None.ensures) })

pub returns-in-Err : goal.returns-in-Err
returns-in-Err g c =
    let version = g.V.Components.version in
    IsAnswered-Err version (build_sole version g.met.V.Components.version_laws (version.front c.args.empty) (pieces c.args.text.now)) (Some c.in-Err.index) c.in-Err.fault (rw (c.pieces_of.ensures, c.as_bytes.ensures.value) at c.in-Err.ensures.rejected) c.in-Err.ensures.bound
