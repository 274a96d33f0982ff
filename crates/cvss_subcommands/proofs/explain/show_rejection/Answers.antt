use Rattle.std.proofs.Common.{[], ◌∷◌, ◌++◌, ◌-◌, ◌∙◌, ap, append_assoc, take}
use Rattle.std.proofs.lemmas.Result.{IfOk-weaker}
use Rattle.cvss_frame.specs.Names.{shown_name}
use Rattle.cvss_subcommands.proofs.ExplainLemmas.{without_last}
use Rattle.cvss_subcommands.proofs.explain.show_rejection.Goals as goal

pub returns : goal.returns
returns c = λ before text length_is items.
    let own = c.args.answers.now.bytes.items in
    let end_is = c.saturating_sub-end.ensures ∙ ap (λ count. count - 1) c.waiting_bytes.ensures in
    let cut = c.truncate.ensures.items ∙ ap (λ end. take end own) end_is in
    let shown = c.in_ok-show_after.ensures before text length_is (without_last own before text _ items cut) in
    IfOk-weaker c.push.result _ _ (λ _ pushed. pushed ∙ ap (λ bytes. bytes ++ 10 ∷ []) shown ∙ append_assoc before (shown_name text ++ 10 ∷ []) (10 ∷ [])) c.push.ensures
