use Rattle.std.proofs.Common.{inl, rules, subst}
use Rattle.cvss_vector.specs.Setting.{IsWith, IsWithReason}
use Rattle.cvss_ffi.proofs.SettingLemmas.{made}
use Rattle.cvss_ffi.specs.Setting.{IsMadeOf}
use Rattle.cvss_ffi.specs.private.Rejection.{answered}
use Rattle.cvss_ffi.proofs.setting.vector_with.Goals as goal

pub returns-in-Ok-with_metrics : goal.returns-in-Ok-with_metrics
returns-in-Ok-with_metrics c =
    let cvss = c.in-Ok.cvss in
    let metrics = c.in-Ok-from_utf8.metrics.now in
    let set = c.in-Ok-with_metrics.ensures in
    let new = c.in-Ok-with_metrics.new in
    inl (record {
      cvss = cvss;
      denoted = c.in-Ok.ensures.denoted;
      is = subst (λ given. IsMadeOf c.args.flags (IsWith cvss given) (IsWithReason cvss given) given (answered c.completed.result)) c.in-Ok-from_utf8.ensures.cases.0
          (made c.args.flags (IsWith cvss metrics) (IsWithReason cvss metrics) metrics (search rules) new set.accepted
          (λ other is. let same = set.accepts other is in cc) c.completed.result c.completed.ensures.accepted c.completed.ensures.rejected);
    })
