use Rattle.std.proofs.Common.{ap, refl, sym, ◌++◌, ◌∙◌}
use Rattle.cvss_base.specs.Text.{pieces}
use Rattle.cvss_text.proofs.InOrderLemmas.{IsReadLeft-whole, canonical_whole}
use Rattle.cvss_vector.proofs.ReadLemmas.{IsPublishedBy-read}
use Rattle.cvss_vector.proofs.publishing.published_as.Goals as goal

pub published-requires : goal.published-requires
published-requires g c =
    let vector = c.in_ok-vector.vector in
    record { scored = rw c.join.ensures ((c.reads_by_its_rules.ensures.read.accepted tt vector (IsReadLeft-whole g.V.Components.version g.met.V.Components.version_laws vector c.args.components.now _ c.in_ok-vector.ensures.whole c.without_metrics-empty.result refl)).scored) }

pub published-requires-else-is_base : goal.published-requires-else-is_base
published-requires-else-is_base g c =
    let vector = c.in_ok-vector.vector in
    record { scored = rw c.join-else-is_base.ensures ((c.reads_by_its_rules.ensures.read.accepted tt vector (IsReadLeft-whole g.V.Components.version g.met.V.Components.version_laws vector c.args.components.now _ c.in_ok-vector.ensures.whole c.without_metrics-empty.result refl)).scored) }

pub returns-then-is_base : goal.returns-then-is_base
returns-then-is_base g c = λ allow_incomplete.
    let version = g.V.Components.version in
    let version_laws = g.met.V.Components.version_laws in
    let rules = c.reads_by_its_rules.ensures in
    let components = c.args.components.now in
    let empty = c.without_metrics-empty in
    let vector = c.in_ok-vector.vector in
    let whole = c.in_ok-vector.ensures.whole in
    let cut = c.requires.cut ∙ ap (λ front. front ++ pieces components) (sym empty.ensures.front) in
    IsPublishedBy-read allow_incomplete (rules.read.accepted tt vector (IsReadLeft-whole version version_laws vector components _ whole empty.result refl))
    (canonical_whole version version_laws vector components _ whole c.args.text.now cut ∙ sym (rules.text vector)) (rw c.join.ensures at c.published.ensures)
    (rules.complete allow_incomplete vector c.in_ok-vector.ensures.base)

pub returns-else-is_base : goal.returns-else-is_base
returns-else-is_base g c = λ allow_incomplete.
    let version = g.V.Components.version in
    let version_laws = g.met.V.Components.version_laws in
    let rules = c.reads_by_its_rules.ensures in
    let components = c.args.components.now in
    let empty = c.without_metrics-empty in
    let vector = c.in_ok-vector.vector in
    let whole = c.in_ok-vector.ensures.whole in
    let cut = c.requires.cut ∙ ap (λ front. front ++ pieces components) (sym empty.ensures.front) in
    IsPublishedBy-read allow_incomplete (rules.read.accepted tt vector (IsReadLeft-whole version version_laws vector components _ whole empty.result refl))
    (canonical_whole version version_laws vector components _ whole c.args.text.now cut ∙ sym (rules.text vector)) (rw c.join-else-is_base.ensures at c.published-else-is_base.ensures)
    (rules.complete allow_incomplete vector c.in_ok-vector.ensures.base)
