use Rattle.std.proofs.Common.{◌≡◌, ◌+◌, ◌<◌, ◌∷◌, drop, get_or, length, refl, ap, ◌∙◌, arith, rules}
use Rattle.std.proofs.lemmas.Bool.Decides.{nat_tests}
use Rattle.std.proofs.lemmas.List.{drop_more, drop_all}
use Rattle.serde_json.specs.View.{items_view, view}
use Rattle.cvss_audit.specs.Locations.{context_view, locations_in_items}
use Rattle.cvss_audit.specs.private.Walking.{steps_in_items}
use Rattle.cvss_audit.specs.declared.locations.walk.Rest.TheVariants.{Items}
use Rattle.cvss_audit.specs.declared.locations.pointer.Step.TheVariants.{Item}
use Rattle.cvss_audit.proofs.LocationsLemmas.{Visits-inner, Visits-nothing}
use Rattle.cvss_audit.proofs.locations.walk.Locations.visit_item.Goals as goal

pub returns-in_ok-enter : goal.returns-in_ok-enter
returns-in_ok-enter c =
    let items = c.args.items in
    let index = c.args.index in
    let context = context_view c.args.context in
    let item = c.in-Some.item in
    let within : index < length items.now = grind (arith, nat_tests) in
    let is : get_or items.now index item.now ≡ item.now = search rules in
    let next = ap items_view (drop_more items.now index item.now within ∙ ap (λ value. value ∷ drop (index + 1) items.now) is) in
    Visits-inner c.args.self.now.levels.items _ _ c.args.step (Item index) (Items items index c.args.context) (Items items (index + 1) c.args.context) context (view item.now)
    (ap (locations_in_items context index) next) (ap steps_in_items next) c.in_ok-push.ensures c.in_ok-enter.ensures

pub returns-in_default : goal.returns-in_default
returns-in_default c =
    let items = c.args.items in
    let none = ap items_view (drop_all c.args.index items.now (grind (arith, nat_tests))) in
    Visits-nothing c.args.self.now.levels.items _ c.args.step (Items items c.args.index c.args.context) (ap (locations_in_items (context_view c.args.context) c.args.index) none)
    (ap steps_in_items none) refl
