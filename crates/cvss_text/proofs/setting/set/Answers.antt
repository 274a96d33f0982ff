use Rattle.std.proofs.Common.{Some, ◌∙◌}
use Rattle.cvss_text.specs.Setting.{components_in}
use Rattle.cvss_text.proofs.SettingLemmas.{IsAnswered-Err, IsAnswered-Ok, set_sole}
use Rattle.cvss_text.proofs.setting.set.Goals as goal

pub returns-in-Ok : goal.returns-in-Ok
returns-in-Ok g c =
    let version = g.V.Components.version in
    IsAnswered-Ok version (set_sole version g.met.V.Components.version_laws c.args.vector.now (components_in c.args.text.now)) _
    (record {
      given = c.in-Ok.given;
      components = rw (c.components_of.ensures, c.as_bytes.ensures.value) at c.in-Ok.ensures.components;
      values = c.completed.ensures.values;
      front_is = c.completed.ensures.front ∙ (c.in-Ok.ensures.front ∙ c.requires.front);
    })

pub returns-in-Err : goal.returns-in-Err
returns-in-Err g c =
    let version = g.V.Components.version in
    let first = rw (c.components_of.ensures, c.as_bytes.ensures.value) at c.in-Err.ensures.rejected in
    IsAnswered-Err version (set_sole version g.met.V.Components.version_laws c.args.vector.now (components_in c.args.text.now)) (Some c.in-Err.index) c.in-Err.fault first c.in-Err.ensures.bound
