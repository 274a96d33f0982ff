use Rattle.std.proofs.Common.{map, sym, subst}
use Rattle.std.proofs.lemmas.Result.{on_ok_weaker}
use Rattle.cvss_audit.specs.Differences.{difference_view}
use Rattle.cvss_audit.specs.Inputs.{input_view}
use Rattle.cvss_audit.specs.Lines.{AreDifferenceLines}
use Rattle.cvss_audit.specs.Locations.{location_view}
use Rattle.cvss_audit.specs.private.Writing.{WritesTexts}
use Rattle.cvss_audit.proofs.WritingLemmas.{difference_written, first_and_others}
use Rattle.cvss_audit.proofs.written.lines.+write_differences.Goals as goal

pub returns : goal.returns
returns t c =
    let input = input_view c.args.input in
    let location = location_view c.args.location.now in
    let old = c.args.answers.now.bytes.items in
    let new = c.write_differences.new.answers.bytes.items in
    let all = first_and_others c.args.differences.now c.difference-item.result c.in-len1-up.len_at_least c.difference-item.is in
    on_ok_weaker c.write_differences.result
    (λ others. subst (λ all. WritesTexts (AreDifferenceLines input location (map difference_view all)) old new) (sym all)
    (difference_written input location _ _ old _ new c.in_ok-write_difference.ensures others))
    c.write_differences.ensures
