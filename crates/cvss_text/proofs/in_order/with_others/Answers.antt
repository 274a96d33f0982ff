use Rattle.cvss_text.proofs.InOrderLemmas.{IsInOrderTo-others}
use Rattle.cvss_text.proofs.in_order.with_others.Goals as goal

pub returns-clause-text : goal.returns-clause-text
returns-clause-text g c =
    let read = c.put_others-rest.ensures in
    IsInOrderTo-others g.V.Components.version g.V.Components.base_count c.args.base _ c.args.text.now _ c.requires read.text read.base read.front
