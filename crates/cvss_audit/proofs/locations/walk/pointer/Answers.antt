use Rattle.std.proofs.Common.{◌+◌, ◌++◌, ◌∷◌, drop, string_bytes, sym, ap, ◌∙◌, append_assoc}
use Rattle.std.proofs.lemmas.List.{drop_more}
use Rattle.cvss_audit.specs.LocationsLeft.{step_text}
use Rattle.cvss_audit.specs.private.Walking.{pointer_to}
use Rattle.cvss_audit.proofs.locations.walk.pointer.Goals as goal

pub loop-level-preserved : goal.loop-level-preserved
loop-level-preserved c =
    let text = string_bytes c.loop-level.text in
    let level = c.level-item.result in
    let rest = drop (c.loop-level.level-index + 1) c.args.levels.now in
    let next = drop_more c.args.levels.now c.loop-level.level-index level c.loop-level-test.true ∙ ap (λ first. first ∷ rest) (sym c.level-item.is) in
    ap (λ before. before ++ pointer_to rest) c.in_ok-push_step.ensures ∙ append_assoc text (step_text level.step) (pointer_to rest)
    ∙ ap (λ left. text ++ pointer_to left) (sym next) ∙ c.loop-level.invariant
