use Rattle.std.proofs.Common.{ap, ◌∙◌}
use Rattle.serde_json.proofs.Views.{view-Object}
use Rattle.serde_json.specs.Data.{object}
use Rattle.cvss_audit.proofs.ObjectLemmas.{with_members-append}
use Rattle.cvss_audit.proofs.written.members.group_scores.Goals as goal

pub returns : goal.returns
returns c =
    view-Object c.put-2.new.map
    ∙ ap object (rw (c.in_ok-put-2.ensures.ok, c.score_value-2.ensures, c.in_ok-put_score-2.ensures, c.in_ok-put_score.ensures, c.in_ok-put.ensures.ok, c.score_value.ensures)
    (rw c.new-members.ensures.empty (simp with_members-append)))
