use Rattle.std.proofs.Common.{sym, ap, ◌∙◌, subst}
use Rattle.cvss_base.specs.Version.{AreComponentsOf}
use Rattle.cvss_text.specs.Setting.{components_in}
use Rattle.cvss_text.proofs.SettingLemmas.{right_held}
use Rattle.cvss_ffi.proofs.exact.partial.Goals as goal

pub returns-in-Err-clause-none : goal.returns-in-Err-clause-none
returns-in-Err-clause-none g c =
    let version = g.V.Components.version in
    let version_laws = g.met.V.Components.version_laws in
    let wrong = c.in-Err.ensures.rejected in
    let same = ap components_in (sym c.in-Ok.ensures.cases.0) ∙ sym (c.components_of.ensures ∙ ap components_in c.as_bytes.ensures.value) in
    record {
      none = λ v is. right_held version version_laws v _ _ (subst (λ each. AreComponentsOf version each v) same is.components) wrong.within _ wrong.is;
    }
