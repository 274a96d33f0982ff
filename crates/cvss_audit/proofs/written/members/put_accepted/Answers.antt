use Rattle.std.proofs.Common.{◌∙◌}
use Rattle.std.proofs.lemmas.Result.{on_ok_weaker}
use Rattle.cvss_audit.proofs.ObjectLemmas.{with_members-append}
use Rattle.cvss_audit.proofs.written.members.put_accepted.Goals as goal

pub returns : goal.returns
returns c =
    on_ok_weaker c.put_differences.result
    (λ last. last ∙ rw (c.in_ok-put_missing.ensures, c.in_ok-put_reported.ensures) (simp with_members-append))
    c.put_differences.ensures
