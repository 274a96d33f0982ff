use Rattle.std.proofs.lemmas.List.{take_rest}
use Rattle.cvss_matches.specs.Matches.{without_label}
use Rattle.cvss_matches.proofs.FindLemmas.{after_label, found_by, found_whole, not_found_by}
use Rattle.cvss_matches.proofs.matching.find_after_label.Goals as goal

pub returns-then-is_certain : goal.returns-then-is_certain
returns-then-is_certain c = found_whole c.args.offset c.args.text.now (c.is_certain.ensures.0 (cc c.if-is_certain.true))

pub returns-then-is_found : goal.returns-then-is_found
returns-then-is_found c =
    let text = c.args.text.now in
    let label = c.label_of-label in
    found_by _ (without_label c.args.offset text) (after_label c.args.offset text _ label.result label.ensures.value (take_rest text label.result))
    (c.is_found.ensures.0 (cc c.if-is_found.true))

pub returns : goal.returns
returns c =
    let text = c.args.text.now in
    let label = c.label_of-label in
    not_found_by _ (without_label c.args.offset text) (after_label c.args.offset text _ label.result label.ensures.value (take_rest text label.result))
    (λ found. let yes = c.is_found.ensures.1 found in cc (yes, c.if-is_found.false))
