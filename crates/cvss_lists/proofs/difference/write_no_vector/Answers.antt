use Rattle.std.proofs.Common.{◌++◌, ◌∙◌, ap, codes, sym}
use Rattle.std.proofs.lemmas.Result.{IfOk-weaker}
use Rattle.cvss_frame.specs.Names.{shown_name}
use Rattle.cvss_vector.specs.Reasons.{error_message}
use Rattle.cvss_lists.proofs.DifferenceLemmas.{no_vector_written}
use Rattle.cvss_lists.proofs.difference.write_no_vector.Goals as goal

pub returns : goal.returns
returns c =
    let why = codes "error: " ++ error_message c.args.error in
    let old = c.args.answers.now.bytes.items in
    let begun = c.in_ok-push-2.ensures ∙ ap (λ bytes. bytes ++ codes " vector: ") (c.in_ok-push.ensures ∙ ap (λ which. old ++ which) c.as_bytes.ensures.value) in
    IfOk-weaker c.show_after.result _ _ (λ _ written. no_vector_written old c.args.which.now (codes " vector: ") c.push-2.new.self.bytes.items (shown_name why) _ begun written)
    (c.show_after.ensures c.push-2.new.self.bytes.items why (sym c.waiting_bytes-waiting.ensures) c.in_ok-write_error.ensures)
