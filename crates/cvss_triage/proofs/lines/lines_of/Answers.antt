use Rattle.std.proofs.Common.{◌≡◌, ◌++◌, ◌∷◌, arith, length, [], subst}
use Rattle.std.proofs.lemmas.Grind.{common_steps}
use Rattle.cvss_triage.proofs.InputLemmas.{count_more, lines_more, starts_more}
use Rattle.cvss_triage.proofs.lines.lines_of.Goals as goal

pub loop-input-preserved : goal.loop-input-preserved
loop-input-preserved c =
    let form = c.args.form in
    let inputs = c.args.inputs.now in
    let index = c.loop-input.input-index in
    let old = c.loop-input.lines.items in
    let new = c.push_input.new.lines.items in
    let starts = c.loop-input.starts.items in
    let said : c.len.result ≡ length old = grind (arith, common_steps) in
    record {
      lines = lines_more form inputs index old c.loop-input.invariant.lines _ new c.loop-input-test.true c.in_ok-push_input.ensures;
      starts =
          starts_more form inputs index _ (length old) (length new) starts c.push.new.self.items c.loop-input-test.true
          c.loop-input.invariant.starts (subst (λ n. c.push.new.self.items ≡ starts ++ n ∷ []) said c.in_ok-push.ensures.items)
          (count_more form _ old new c.in_ok-push_input.ensures);
    }
