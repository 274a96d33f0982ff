use Rattle.std.proofs.Common.{rules, bytes_eq, sym, ◌∙◌}
use Rattle.std.proofs.lemmas.Iterator.{YieldsList-from_slice}
use Rattle.std.proofs.lemmas.Iterator.Adapters.{option_map_id}
use Rattle.std.proofs.lemmas.Iterator.Consumers.{YieldsList-from_copied}
use Rattle.std.proofs.lemmas.Iterator.Search.{find_from_yields_List}
use Rattle.cvss_metric.specs.v2.Table.{spelling_of}
use Rattle.cvss_metric.proofs.v2.metric.MetricValue.read_bytes.Goals as goal
use borrow.Author.Tests.{tests}

pub returns-clause-read : goal.returns-clause-read
returns-clause-read g c = λ metric same.
    let found = find_from_yields_List (λ x. bytes_eq (spelling_of g.Self.MetricValue.KIND (g.Self.MetricValue.value x)) c.args.text.now) _ _ c.find.result c.find.ensures.ran (YieldsList-from_copied (YieldsList-from_slice c.values.result.now cc)) (λ x b q k. search (rules, tests)) in
    sym (option_map_id c.find.result) ∙ found ∙ rw same at (c.values.ensures.first metric)
