use Rattle.std.proofs.Common.{refl, sym, subst, ◌∙◌}
use Rattle.std.proofs.lemmas.Bool.{false≢true}
use Rattle.std.proofs.lemmas.Option.{same_Some}
use Rattle.cvss.specs.ReadingV4.{IsReading}
use Rattle.cvss_metric.specs.v4.Table.{spelling_at}
use Rattle.cvss.proofs.ReadingLemmas.{read_alike}
use Rattle.cvss.proofs.v4.metric.Metric.read.Goals as goal

pub returns-in_err-metric-clause-read : goal.returns-in_err-metric-clause-read
returns-in_err-metric-clause-read g c = λ metric reading.
    c.from_residual.ensures ∙ c.in_err-metric.ensures.read metric (rw c.as_bytes.ensures.value (read_alike _ _ reading))

pub is_reading-requires : goal.is_reading-requires
is_reading-requires g c = rw (c.as_str.ensures, ← c.as_bytes.ensures.value) c.in_ok-metric.ensures.spelled

pub returns-then-is_reading-clause-spelled : goal.returns-then-is_reading-clause-spelled
returns-then-is_reading-clause-spelled g c = rw (← c.as_str.ensures) (c.if-is_reading.ensures.0 refl)

pub returns-then-is_reading-clause-read : goal.returns-then-is_reading-clause-read
returns-then-is_reading-clause-read g c = λ metric reading.
    c.in_ok-metric.ensures.read metric (rw c.as_bytes.ensures.value (read_alike _ _ reading))

pub returns-else-is_reading-clause-read : goal.returns-else-is_reading-clause-read
returns-else-is_reading-clause-read g c = λ metric reading.
    let same = same_Some _ _ (c.in_ok-metric.ensures.read metric (rw c.as_bytes.ensures.value (read_alike _ _ reading))) in
    let read = subst (λ m. IsReading (spelling_at g.Self.MetricValue.KIND (g.Self.MetricValue.rank m)) c.args.text.now) (sym same) reading in
    absurd (false≢true (c.if-is_reading.ensures.1 (rw c.as_str.ensures read)))
