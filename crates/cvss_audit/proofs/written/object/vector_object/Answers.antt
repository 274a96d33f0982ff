use Rattle.std.proofs.Common.{ap, map}
use Rattle.cvss_audit.specs.Differences.{difference_view}
use Rattle.cvss_audit.specs.Inputs.{input_view}
use Rattle.cvss_audit.specs.Objects.{accepted_members, location_members}
use Rattle.cvss_audit.specs.Locations.{location_view}
use Rattle.cvss_audit.specs.Trees.{members_view}
use Rattle.cvss_audit.proofs.WritingLemmas.{put_both}
use Rattle.cvss_audit.proofs.written.object.vector_object.Goals as goal

pub returns : goal.returns
returns c = record {
  scores = c.of-scores.result;
  are_scores = c.of-scores.ensures;
  is = put_both (location_members (input_view c.args.input) (location_view c.args.location.now))
      (accepted_members c.args.cvss.now c.of-scores.result (map difference_view c.args.differences.items))
      _ _ _ (ap members_view c.new-members.ensures.empty) c.in_ok-put_location_members.ensures c.in_ok-put_accepted.ensures;
}
