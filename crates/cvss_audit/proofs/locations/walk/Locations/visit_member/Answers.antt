use Rattle.std.proofs.Common.{ap, arith, length, refl, subst, sym, ◌∙◌}
use Rattle.serde_json.specs.Data.{member}
use Rattle.serde_json.specs.View.{members_view, view}
use Rattle.cvss_audit.specs.Locations.{context_view, locations_in_members, member_context}
use Rattle.cvss_audit.specs.private.Walking.{Enters, steps_in_members}
use Rattle.cvss_audit.specs.declared.locations.walk.Rest.TheVariants.{Object}
use Rattle.cvss_audit.specs.declared.locations.pointer.Step.TheVariants.{Member}
use Rattle.cvss_audit.proofs.LocationsLemmas.{Visits-inner, Visits-nothing}
use Rattle.cvss_audit.proofs.locations.walk.Locations.visit_member.Goals as goal

pub returns-in_ok-enter : goal.returns-in_ok-enter
returns-in_ok-enter c =
    let object = c.args.object in
    let context = context_view c.args.context in
    let all = members_view object.now.entries in
    let name = c.as_str-name.result in
    let value = view c.in-Some.value.now in
    let after = members_view c.next.new.self in
    let next = ap members_view c.in-Some.ensures.steps ∙ ap (λ text. member text value after) (sym c.as_str-name.ensures.value) in
    let entered = subst (λ seen. Enters (Member name) seen value c.push.new.self.levels.items c.enter.new.self.levels.items) c.member_context.ensures c.in_ok-enter.ensures in
    λ none. Visits-inner c.args.self.now.levels.items _ _ c.args.step (Member name)
    (Object object c.args.context c.args.forms c.args.members) (Object object c.args.context c.args.forms c.next.new.self) (member_context context all name.now) value
    (rw none (ap (locations_in_members context all) next)) (omega (arith, ap length none, ap steps_in_members next)) c.in_ok-push.ensures entered

pub returns-in_default : goal.returns-in_default
returns-in_default c =
    let object = c.args.object in
    let last = ap members_view c.in_default.ensures.steps.0 in
    λ none. Visits-nothing c.args.self.now.levels.items _ c.args.step (Object object c.args.context c.args.forms c.args.members)
    (rw none (ap (locations_in_members (context_view c.args.context) (members_view object.now.entries)) last)) (omega (arith, ap length none, ap steps_in_members last)) refl
