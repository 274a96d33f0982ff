use Rattle.std.proofs.Common.{ap, sym, ◌∙◌}
use Rattle.cvss_base.specs.Version.{read}
use Rattle.cvss_text.proofs.LawLemmas.{IsCut_named, named_known, named_unknown}
use Rattle.cvss_text.proofs.PieceLemmas.{utf8_parts}
use Rattle.cvss_text.proofs.cutting.cut_at_colon.Goals as goal

pub returns-in-Some-kind_named : goal.returns-in-Some-kind_named
returns-in-Some-kind_named g c =
    let version = g.V.Components.version in
    let version_laws = g.met.V.Components.version_laws in
    let named = named_known version version_laws _ c.in-Some-kind_named.kind c.in-Some-kind_named.ensures in
    record { cut = IsCut_named version version_laws _ _ _ _ c.in-Some.ensures.cut named; rejected = tt; unnamed = tt; printable = λ _. tt }

pub returns-in-None : goal.returns-in-None
returns-in-None g c =
    let name_is = ap (read g.V.Components.version) c.in-Some.ensures.name_is in
    let unknown = named_unknown g.V.Components.version g.met.V.Components.version_laws _ c.in-None.ensures in
    record { cut = tt; rejected = λ _ _. (name_is, unknown); unnamed = λ _ kind named. unknown kind (named ∙ sym name_is); printable = λ is. (utf8_parts _ _ _ c.in-Some.ensures.cut is).0 }
