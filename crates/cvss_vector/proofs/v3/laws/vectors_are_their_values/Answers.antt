use Rattle.std.proofs.Common.{◌≡◌, Bool, true, false, Option, rules, arith, refl}
use Rattle.std.specs.Option.{option_eq}
use Rattle.cvss_base.specs.declared.v3.MetricType.TheVariants.{A}
use Rattle.cvss_metric.specs.contracts.v3.environmental.modified.ModifiedScopePartialEq.TheImpl.{ghosts}
use Rattle.cvss_metric.specs.declared.v3.environmental.modified.Modified.{Modified}
use Rattle.cvss_metric.specs.declared.v3.environmental.modified.Modified.TheVariants.{NotDefined, Modified as Set}
use Rattle.cvss_metric.specs.declared.v3.environmental.modified.ModifiedScope.{ModifiedScope}
use Rattle.cvss_metric.specs.v3.private.ModifiedLaws.{modified_equality}
use Rattle.cvss_text.proofs.EqualLemmas.{Reports, Reporting, options, comparisons}
use Rattle.cvss_vector.specs.contracts.v3.vector.VectorEq.TheImpl.Laws.{laws-law}
use Rattle.cvss_vector.proofs.v3.laws.vectors_are_their_values.Goals as goal

scopes : (x y : ModifiedScope) → Reports (ghosts.eq x y) (x ≡ y)
scopes x y = record { reports = search rules }

-- options of modified values, where those of the base metric say their equality
abbrev modified : {X : Type 0} (same : Modified X → Modified X → Bool) (o p : Option (Modified X))
    → ((a b : X) → Reports (same (Set a) (Set b)) (a ≡ b)) → same NotDefined NotDefined ≡ true
    → ((b : X) → same NotDefined (Set b) ≡ false) → ((a : X) → same (Set a) NotDefined ≡ false) → Reporting (option_eq same o p)
modified same o p each none before after =
    let by_value = modified_equality {equals = λ a b. same (Set a) (Set b)} same (λ a b. (each a b).reports) none before after (λ a b. refl) in
    options same o p (λ x y. record { reports = by_value x y })

pub returns-clause-equality : goal.returns-clause-equality
returns-clause-equality c = λ left right. (
  λ equal. let facts = Reporting.fact (search (modified, comparisons, scopes) depth 60 fits 4000) equal in grind arith,
  λ same. let own = laws-law.refl left in cc,
)

pub returns-clause-default : goal.returns-clause-default
returns-clause-default c = λ vector empty. elim [ A ↦ search rules | _ ↦ search rules ]
