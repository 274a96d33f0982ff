use Rattle.std.specs.Option.{option_copied}
use Rattle.cvss_text.specs.private.SettingSteps.{kept}
use Rattle.cvss_text.proofs.SettingLemmas.{IsCompletedTo}
use Rattle.cvss_text.proofs.setting.completed.Given as goal

abbrev pub invariant-loop-kind : goal.invariant-loop-kind
invariant-loop-kind g l =
    let version = g.V.Components.version in
    IsCompletedTo version (kept version (option_copied l.fn.left_out) l.fn.own) l.fn.given l.kind-index l.vector
