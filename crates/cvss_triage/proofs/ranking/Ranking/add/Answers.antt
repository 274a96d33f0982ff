use Rattle.std.proofs.Common.{List, ℕ, refl, subst}
use Rattle.cvss_triage.proofs.RankLemmas.{reads_bad, reads_row}
use Rattle.cvss_triage.specs.Ranking.{IsRow}
use Rattle.cvss_triage.specs.Reading.{IsReason}
use Rattle.cvss_triage.specs.declared.overrides.Override.{Override}
use Rattle.cvss_triage.specs.private.Steps.{AreOwnMetrics, as_line}
use Rattle.cvss_triage.proofs.ranking.Ranking.add.Goals as goal

pub returns-in_ok-push-in-Ok : goal.returns-in_ok-push-in-Ok
returns-in_ok-push-in-Ok c = λ lines count read.
    let ranking = c.args.self.now in
    let rules = c.args.rules.now in
    let line = c.args.line.now in
    let Is : List ℕ → Type 0 = λ searched. (overrides : List Override) → AreOwnMetrics overrides rules.own
    → IsRow rules.prefer overrides rules.scoring rules.allow_incomplete c.args.number (record { bytes = line.bytes.now; searched = searched }) c.in-Ok.row in
    rw c.in_ok-push-in-Ok.ensures.items
    (reads_row rules c.args.number (as_line line) lines count ranking.rows.items ranking.bad.items read c.in-Ok.row
    (subst Is c.as_slice.ensures.value c.in-Ok.ensures.row) c.in-Ok.ensures.to_ten)

pub returns-in_ok-push-in-Err : goal.returns-in_ok-push-in-Err
returns-in_ok-push-in-Err c = λ lines count read.
    let ranking = c.args.self.now in
    let rules = c.args.rules.now in
    let line = as_line c.args.line.now in
    rw c.in_ok-push-in-Err.ensures.items
    (reads_bad rules c.args.number line lines count ranking.rows.items ranking.bad.items read (record { number = c.args.number; reason = c.in-Err.reason })
    (λ overrides own. record {
      number_is = refl;
      reason = subst (λ searched. IsReason rules.prefer overrides rules.scoring rules.allow_incomplete searched c.in-Err.reason) c.as_slice.ensures.value (c.in-Err.ensures.reason overrides own);
    }))
