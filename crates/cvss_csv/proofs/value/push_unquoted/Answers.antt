use Rattle.std.proofs.Common.{ap, append_assoc, sym, ◌∙◌, ◌++◌, ◌∷◌, []}
use Rattle.std.proofs.lemmas.Result.{on_ok_weaker}
use Rattle.cvss_csv.specs.Fields.{quote, unquoted}
use Rattle.cvss_csv.proofs.ValueLemmas.{appended, decode_step, unquoted_none}
use Rattle.cvss_csv.proofs.value.push_unquoted.Goals as goal

pub loop-run-preserved : goal.loop-run-preserved
loop-run-preserved c =
    let after = unquoted c.in-Some-after_second_quote.after.now in
    ap (λ ys. ys ++ after) c.in_ok-push.ensures.items ∙ append_assoc c.extend_from_slice.new.self.items (quote ∷ []) after
    ∙ decode_step c.loop-run.text.items c.loop-run.rest.now _ c.in-Some.run'.now c.in-Some.following.now c.extend_from_slice.new.self.items (quote ∷ after)
    c.loop-run.invariant c.in-Some.ensures.0 c.in-Some.ensures.1 c.in_ok-extend_from_slice.ensures.items c.in-Some-after_second_quote.ensures.value

pub returns-in_default-after_second_quote : goal.returns-in_default-after_second_quote
returns-in_default-after_second_quote c =
    let following = c.in-Some.following.now in
    on_ok_weaker c.extend_from_slice-in_default-after_second_quote.result
    (λ is. is ∙ decode_step c.loop-run.text.items c.loop-run.rest.now _ c.in-Some.run'.now following c.extend_from_slice.new.self.items following
    c.loop-run.invariant c.in-Some.ensures.0 c.in-Some.ensures.1 c.in_ok-extend_from_slice.ensures.items c.in_default-after_second_quote.ensures.value)
    (appended c.extend_from_slice-in_default-after_second_quote.result _ _ _ c.extend_from_slice-in_default-after_second_quote.ensures.items)

pub returns : goal.returns
returns c =
    on_ok_weaker c.extend_from_slice-2.result
    (λ is. is ∙ ap (λ ys. c.loop-run.text.items ++ ys) (sym (unquoted_none c.loop-run.rest.now c.in_default.ensures)) ∙ c.loop-run.invariant)
    (appended c.extend_from_slice-2.result _ _ _ c.extend_from_slice-2.ensures.items)
