use Rattle.std.proofs.Common.{[], ◌∷◌, ap, string_bytes}
use Rattle.cvss_audit.specs.Inputs.{input_view}
use Rattle.cvss_audit.specs.Objects.{error_member, location_members}
use Rattle.cvss_audit.specs.Locations.{location_view}
use Rattle.cvss_audit.specs.Trees.{members_view}
use Rattle.cvss_audit.proofs.WritingLemmas.{put_both}
use Rattle.cvss_audit.proofs.written.object.rejected_object.Goals as goal

pub returns : goal.returns
returns c =
    put_both (location_members (input_view c.args.input) (location_view c.args.location.now)) (error_member (string_bytes c.args.reason) ∷ [])
    _ _ _ (ap members_view c.new-members.ensures.empty) c.in_ok-put_location_members.ensures c.in_ok-put_error.ensures
