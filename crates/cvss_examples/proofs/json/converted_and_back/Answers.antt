use Rattle.std.proofs.Common.{◌≡◌, string_bytes, subst, sym}
use Rattle.std.proofs.lemmas.Result.{IfErr-weaker, IfOk-weaker}
use Rattle.cvss.specs.declared.json.JsonError.TheVariants.{OutOfMemory}
use Rattle.cvss_examples.specs.Conversions.{ReportsNoText}
use Rattle.cvss_examples.proofs.ConversionLemmas.{converted, stands_for}
use Rattle.cvss_examples.proofs.json.converted_and_back.Goals as goal

pub returns-clause-back : goal.returns-clause-back
returns-clause-back c =
    let laws = c.texts_denote_one_vector.ensures in
    IfOk-weaker _ _ _ (λ back. converted laws.own laws.one c.args.text.now _ (string_bytes back) c.in_ok-value.ensures.value) c.text_of.ensures.text

pub returns-clause-accepts : goal.returns-clause-accepts
returns-clause-accepts c =
    let value = c.in_ok-value.ensures.value in
    let stands = stands_for c.texts_denote_one_vector.ensures.own c.args.text.now _ value in
    λ cvss denoted. c.text_of.ensures.accepts value.vector stands

pub returns-clause-rejected : goal.returns-clause-rejected
returns-clause-rejected c =
    IfErr-weaker c.text_of.result (λ error. error ≡ OutOfMemory) (ReportsNoText c.args.text.now) (λ error is. subst (ReportsNoText c.args.text.now) (sym is) tt)
    (returns-clause-accepts c _ c.in_ok-value.ensures.value.denoted)
