use Rattle.std.proofs.Common.{MatchOption, [], append-nil, inr, refl, subst, sym}
use Rattle.cvss_vector.specs.Setting.{IsWith}
use Rattle.cvss_vector.specs.declared.vector.Cvss.{Cvss}
use Rattle.cvss_base.specs.Text.{component}
use Rattle.cvss_explain.specs.WhatIf.{IsScored}
use Rattle.cvss_explain.proofs.what_if.write_cell.Goals as goal

pub returns-in-None : goal.returns-in-None
returns-in-None c =
    let set = component c.args.name.now c.args.value.0.now in
    record {
      text = [];
      holds = inr (subst (λ tenths. MatchOption tenths ((new : Cvss) → ¬ (IsWith c.args.cvss.now set new)) (IsScored c.args.cvss.now set)) c.in-None.is c.in_ok-tenths.ensures.set, refl);
      written = sym (append-nil c.args.answers.now.bytes.items);
    }
