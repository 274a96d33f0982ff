use Rattle.std.proofs.Common.{ap, sym, ◌∙◌}
use Rattle.std.specs.List.{position_from}
use Rattle.std.specs.Str.{str_eq_ignore_ascii_case}
use Rattle.std.proofs.lemmas.Option.{none-some, same_Some}
use Rattle.cvss_metric.proofs.v4.ReadingLemmas.{alike_at, each, place_alike}
use Rattle.cvss_metric.specs.v4.Table.{spellings_of}
use Rattle.cvss_metric.proofs.v4.metric.MetricValue.read_bytes.Goals as goal

pub returns-in-Some-clause-spelled : goal.returns-in-Some-clause-spelled
returns-in-Some-clause-spelled g c =
    let kind = g.Self.MetricValue.KIND in
    let found = sym c.in-Some.is ∙ (c.place_of.ensures ∙ ap (λ own. position_from (λ x. str_eq_ignore_ascii_case x c.args.text.now) 0 (spellings_of own)) c.KIND.ensures) in
    each c.at.result (λ metric at. rw at (alike_at kind c.in-Some.place c.args.text.now found)) c.at.ensures.placed

pub returns-in-Some-clause-read : goal.returns-in-Some-clause-read
returns-in-Some-clause-read g c = λ metric same.
    let kind = g.Self.MetricValue.KIND in
    let found = sym c.in-Some.is ∙ (c.place_of.ensures ∙ ap (λ own. position_from (λ x. str_eq_ignore_ascii_case x c.args.text.now) 0 (spellings_of own)) c.KIND.ensures) in
    c.at.ensures.each metric (sym (same_Some _ _ (found ∙ place_alike kind (g.Self.MetricValue.rank metric) c.args.text.now (g.met.Self.MetricValue.within metric) same)))

pub returns-in-None-clause-read : goal.returns-in-None-clause-read
returns-in-None-clause-read g c = λ metric same.
    let kind = g.Self.MetricValue.KIND in
    let found = sym c.in-None.is ∙ (c.place_of.ensures ∙ ap (λ own. position_from (λ x. str_eq_ignore_ascii_case x c.args.text.now) 0 (spellings_of own)) c.KIND.ensures) in
    absurd (none-some _ (found ∙ place_alike kind (g.Self.MetricValue.rank metric) c.args.text.now (g.met.Self.MetricValue.within metric) same))
