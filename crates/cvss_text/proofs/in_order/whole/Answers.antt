use Rattle.std.proofs.Common.{◌∙◌}
use Rattle.cvss_text.proofs.InOrderLemmas.{IsInOrderTo-end}
use Rattle.cvss_text.proofs.in_order.whole.Goals as goal

pub returns-in-empty-clause-whole : goal.returns-in-empty-clause-whole
returns-in-empty-clause-whole g c =
    let read = c.with_others-vector in
    let base = c.in_ok-base.ensures in
    let version = g.V.Components.version in
    record {
      in_order = IsInOrderTo-end version (version.front c.args.empty) c.args.text.now read.result.0 read.result.1.now c.in-empty.len_below (read.ensures.text _ _ base.in_order);
      present = read.ensures.missing ∙ base.present;
    }
