use Rattle.std.proofs.Common.{inl}
use Rattle.std.proofs.lemmas.Result.{IfOk-weaker}
use Rattle.cvss.specs.Answers.{text_of}
use Rattle.cvss_examples.proofs.ConversionLemmas.{read_as, rejected_as}
use Rattle.cvss_examples.proofs.json.written_and_read.Goals as goal

pub returns-clause-given_back : goal.returns-clause-given_back
returns-clause-given_back c =
    let cvss = c.args.cvss.now in
    λ given. inl (c.from_value.ensures.accepts cvss (record {
      text = text_of cvss;
      is_string = c.in_ok-value.ensures.written;
      holds = (c.texts_denote_one_vector.ensures.own cvss).1 given;
    }))

pub returns-clause-read : goal.returns-clause-read
returns-clause-read c =
    IfOk-weaker _ _ _ (λ read. read_as (text_of c.args.cvss.now) _ read c.in_ok-value.ensures.written) c.from_value.ensures.stands

pub returns-clause-rejected : goal.returns-clause-rejected
returns-clause-rejected c =
    rejected_as c.from_value.result (text_of c.args.cvss.now) _ c.in_ok-value.ensures.written c.from_value.ensures.rejected c.from_value.ensures.reported
