use Rattle.std.proofs.Common.{◌∙◌, subst}
use Rattle.std.specs.Slice.{IsItemAt}
use Rattle.cvss_triage.proofs.InputLemmas.{none_unclosed, unclosed_at}
use Rattle.cvss_triage.proofs.locations.Locations.is_unclosed.Goals as goal

pub returns-in-Some : goal.returns-in-Some
returns-in-Some c =
    let rows = c.args.self.now.lines.now in
    c.is_unclosed.ensures
    ∙ unclosed_at c.args.self.now.form rows c.args.number c.saturating_sub.result c.saturating_sub.ensures c.in-Some.row
    (subst (IsItemAt rows c.saturating_sub.result) c.in-Some.is c.get.ensures.lookup)

pub returns-in-None : goal.returns-in-None
returns-in-None c =
    let rows = c.args.self.now.lines.now in
    none_unclosed c.args.self.now.form rows c.args.number c.saturating_sub.result c.saturating_sub.ensures
    (subst (IsItemAt rows c.saturating_sub.result) c.in-None.is c.get.ensures.lookup)
