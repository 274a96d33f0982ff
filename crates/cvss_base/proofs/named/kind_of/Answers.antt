use Rattle.std.proofs.Common.{rules, bytes_eq, sym, ◌∙◌}
use Rattle.std.proofs.lemmas.Iterator.{YieldsList-from_slice}
use Rattle.std.proofs.lemmas.Iterator.Adapters.{option_map_id}
use Rattle.std.proofs.lemmas.Iterator.Consumers.{YieldsList-from_copied}
use Rattle.std.proofs.lemmas.Iterator.Search.{find_from_yields_List}
use Rattle.cvss_base.proofs.named.kind_of.Goals as goal
use borrow.Author.Tests.{tests}

pub returns-clause-read : goal.returns-clause-read
returns-clause-read g c = λ kind same.
    let found = find_from_yields_List (λ x. bytes_eq (g.N.Named.row_of x).0 c.args.name.now) _ _ c.find.result c.find.ensures.ran (YieldsList-from_copied (YieldsList-from_slice c.args.all.now cc)) (λ x b q k. search (rules, tests)) in
    sym (option_map_id c.find.result) ∙ found ∙ rw (same, ← c.requires) at (g.met.N.Named.first kind)
