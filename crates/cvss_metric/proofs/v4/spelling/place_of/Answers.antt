use Rattle.std.proofs.Common.{rules, ap, ◌∙◌}
use Rattle.std.specs.List.{position_from}
use Rattle.std.specs.Str.{str_eq_ignore_ascii_case}
use Rattle.std.proofs.lemmas.Iterator.{YieldsList-from_slice}
use Rattle.std.proofs.lemmas.Iterator.Adapters.{position_from-zero}
use Rattle.std.proofs.lemmas.Iterator.Search.{position_from_yields_List}
use Rattle.cvss_metric.proofs.SpellingLemmas.{position-map}
use Rattle.cvss_metric.proofs.v4.spelling.place_of.Goals as goal
use borrow.Author.Tests.{tests}

pub returns : goal.returns
returns c =
    let found = position_from_yields_List (λ x. str_eq_ignore_ascii_case x.now c.args.text.now) _ _ c.position.result c.position.ensures.ran (YieldsList-from_slice c.spellings.result.now cc) (λ x b q k. search (rules, tests)) in
    found ∙ (position_from-zero (λ x. str_eq_ignore_ascii_case x.now c.args.text.now) c.spellings.result.now ∙ position-map (λ x. x.now) (λ x. str_eq_ignore_ascii_case x c.args.text.now) 0 c.spellings.result.now ∙ ap (position_from (λ x. str_eq_ignore_ascii_case x c.args.text.now) 0) c.spellings.ensures)
