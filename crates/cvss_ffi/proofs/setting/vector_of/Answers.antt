use Rattle.std.proofs.Common.{◌∙◌, inl, rules, subst}
use Rattle.std.proofs.lemmas.Int.{to_z-of_z}
use mir.Syntax.{w32}
use Rattle.cvss_vector.specs.Setting.{IsBuiltAs, IsBuiltReason}
use Rattle.cvss_ffi.proofs.SettingLemmas.{made}
use Rattle.cvss_ffi.specs.Setting.{IsMadeOf}
use Rattle.cvss_ffi.specs.private.Rejection.{answered}
use Rattle.cvss_ffi.proofs.setting.vector_of.Goals as goal

pub returns-in-Ok-build : goal.returns-in-Ok-build
returns-in-Ok-build c =
    let version = c.in-Some.version in
    let metrics = c.in-Ok.metrics.now in
    let set = c.in-Ok-build.ensures in
    let new = c.in-Ok-build.new in
    inl (record {
      version = version;
      numbered = c.in-Some.ensures.known ∙ to_z-of_z w32 c.args.version (search rules);
      is = subst (λ given. IsMadeOf c.args.flags (IsBuiltAs version given) (IsBuiltReason version given) given (answered c.completed.result)) c.in-Ok.ensures.cases.0
          (made c.args.flags (IsBuiltAs version metrics) (IsBuiltReason version metrics) metrics (search rules) new set.accepted
          (λ other is. let same = set.accepts other is in cc) c.completed.result c.completed.ensures.accepted c.completed.ensures.rejected);
    })
