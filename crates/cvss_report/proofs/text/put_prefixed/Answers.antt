use Rattle.std.proofs.Common.{◌≡◌, ◌++◌, ◌∙◌, ap, append_assoc, rules, sym}
use Rattle.cvss_base.specs.Version.{canonical_text, numeral}
use Rattle.cvss_text.proofs.NumeralLemmas.{decimal_numeral}
use Rattle.cvss_text.proofs.PrintLemmas.{joined-with_slash}
use Rattle.cvss_text.specs.private.Printing.{texts_with_slash}
use Rattle.cvss_report.proofs.text.put_prefixed.Goals as goal

pub returns-clause-text : goal.returns-clause-text
returns-clause-text g c =
    let version = g.V.Components.version in
    let vector = c.args.vector.now in
    let prefix = c.args.prefix.now in
    let minor = numeral c.args.minor in
    let components = texts_with_slash version vector version.printed in
    let text : (prefix ++ minor) ++ components ≡ canonical_text version vector =
    rw c.requires.prefix (sym (joined-with_slash version vector (prefix ++ minor) version.printed)) in
    rw (c.push_text.ensures, c.text.ensures, c.write_metrics.ensures, c.new-components.ensures, c.whole.ensures.text, c.push.ensures, c.as_bytes.ensures.value, decimal_numeral c.args.minor (search rules))
    (append_assoc (c.args.page.now ++ prefix) minor components
    ∙ append_assoc c.args.page.now prefix (minor ++ components)
    ∙ ap (λ rest. c.args.page.now ++ rest) (sym (append_assoc prefix minor components) ∙ text))
