use Rattle.std.proofs.Common.{refl, subst, sym}
use Rattle.std.proofs.lemmas.Result.{on_ok_weaker}
use Rattle.cvss_audit.specs.Differences.{said_view}
use Rattle.cvss_audit.specs.Lines.{IsSaid, IsWanted}
use Rattle.serde_json.specs.View.{view}
use Rattle.cvss_audit.proofs.WritingLemmas.{difference_line}
use Rattle.cvss_audit.proofs.written.lines.write_difference.Goals as goal

pub returns : goal.returns
returns c =
    let says = subst (λ text. IsSaid (said_view c.args.difference.now.says) text) (sym c.deref.ensures.value) c.in_ok-says.ensures in
    let wanted = subst (λ text. IsWanted (view c.args.difference.now.is) text) (sym c.deref-2.ensures.value) c.in_ok-wanted.ensures in
    on_ok_weaker c.end_into.result
    (λ all. record {
      text = _;
      is = record { says = c.deref.result.now; is_said = says; wanted = c.deref-2.result.now; is_wanted = wanted; are = refl };
      written = difference_line _ _ _ _ _ _ (all _ (c.put_difference.ensures.held _ (c.put_start.ensures.held _ c.begin_after-sink.ensures)));
    })
    c.end_into.ensures
