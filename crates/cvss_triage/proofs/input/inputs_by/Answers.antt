use Rattle.std.proofs.Common.{List, ◌++◌, subst, sym}
use Rattle.std.specs.List.{AllZip}
use Rattle.cvss_triage.specs.Inputs.{IsInputOf}
use Rattle.cvss_triage.specs.declared.input.Input.{Input}
use Rattle.cvss_triage.proofs.InputLemmas.{zip_all, zip_more}
use Rattle.cvss_triage.proofs.input.inputs_by.Goals as goal

pub loop-text-preserved : goal.loop-text-preserved
loop-text-preserved c =
    let asked = c.args.asked.now in
    let texts = c.args.texts.now in
    let index = c.loop-text.text-index in
    let Is = IsInputOf asked.form asked.header asked.column in
    λ more are.
    subst (λ inputs. AllZip Is texts (inputs ++ more)) (sym {A = List Input} c.in_ok-push.ensures.items)
    (zip_more Is texts index c.loop-text.inputs.items c.loop-text.invariant c.text-item.result c.in_ok-input_by.field-0 c.loop-text-test.true
    (subst (λ text. Is text c.in_ok-input_by.field-0) c.text-item.is c.in_ok-input_by.ensures) more are)

pub returns : goal.returns
returns c =
    let asked = c.args.asked.now in
    zip_all (IsInputOf asked.form asked.header asked.column) c.args.texts.now c.loop-text.text-index c.loop-text.inputs.items c.loop-text.invariant c.loop-text-test.false
