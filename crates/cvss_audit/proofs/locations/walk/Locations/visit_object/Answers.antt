use Rattle.std.proofs.Common.{◌≡◌, ◌++◌, ◌<◌, arith, ap, length}
use Rattle.std.proofs.lemmas.List.{drop_all}
use Rattle.std.proofs.lemmas.Result.{IfOk-weaker}
use Rattle.std.specs.List.{filter_map}
use Rattle.std.specs.Option.{option_to_list}
use Rattle.serde_json.specs.View.{members_view}
use Rattle.cvss_audit.specs.Locations.{context_view, location_as, locations_in_members}
use Rattle.cvss_audit.specs.LocationsLeft.{locations_in_rest}
use Rattle.cvss_audit.specs.private.Walking.{steps_in_rest}
use Rattle.cvss_audit.specs.declared.locations.walk.Rest.TheVariants.{Object}
use Rattle.cvss_audit.proofs.LocationsLemmas.{Visits-own, first_location}
use Rattle.cvss_audit.proofs.locations.walk.Locations.visit_object.Goals as goal

pub returns-in_ok-push-in-Some : goal.returns-in_ok-push-in-Some
returns-in_ok-push-in-Some c =
    let old = Object c.args.object c.args.context c.args.forms c.args.members in
    let rest = Object c.args.object c.args.context c.in-Some.later c.args.members in
    let split = c.in-Some.ensures.cases.0 in
    let context = context_view c.args.context in
    let members = members_view c.args.object.now.entries in
    let own = location_as context members c.in-Some.form.now in
    let left = locations_in_members context members (members_view c.args.members) in
    let locations : locations_in_rest old ≡ option_to_list own ++ locations_in_rest rest = rw split (first_location own (filter_map (location_as context members) c.in-Some.later.now) left) in
    let fewer : steps_in_rest rest < steps_in_rest old = omega (arith, ap length split) in
    IfOk-weaker c.own_location.result _ _
    (λ found seen. Visits-own c.args.self.now.levels.items c.push.new.self.levels.items c.args.step old rest (option_to_list own) _ locations fewer seen c.in_ok-push-in-Some.ensures)
    c.own_location.ensures

pub returns-in_ok-visit_member-in-None : goal.returns-in_ok-visit_member-in-None
returns-in_ok-visit_member-in-None c =
    c.in_ok-visit_member-in-None.ensures (drop_all 0 c.args.forms.now (omega (arith, c.in-None.ensures.cases)))
