use denote.Enum.Declared.{tag_of}
use Rattle.std.proofs.Common.{refl, ◌≡◌, nat_cmp}
use Rattle.cvss_base.specs.V4Types.{name_of, declared}
use Rattle.cvss_base.specs.laws.Order.{place_in}
use Rattle.cvss_base.specs.contracts.v4.MetricType.{the_type}
use Rattle.cvss_base.specs.contracts.v4.MetricTypeOrd.TheImpl.{ghosts}
use Rattle.cvss_base.specs.declared.v2.MetricType.TheVariants as v2
use Rattle.cvss_base.specs.declared.v3.MetricType.TheVariants as v3
use Rattle.cvss_base.specs.declared.v4.MetricType.{MetricType}
use Rattle.cvss_base.specs.declared.v4.MetricType.TheVariants.{AC}
use Rattle.cvss_laws.proofs.base.orders_are_declared.Goals as goal

placed : (kind : MetricType) → place_in name_of declared kind ≡ tag_of the_type kind
placed = elim [ AC ↦ refl | _ ↦ refl ]

tagged : (x y : MetricType) → ghosts.cmp x y ≡ nat_cmp (tag_of the_type x) (tag_of the_type y)
tagged = elim [ AC ↦ elim [ AC ↦ refl | _ ↦ refl ] | _ ↦ elim [ AC ↦ refl | _ ↦ refl ] ]

pub returns-clause-v2 : goal.returns-clause-v2
returns-clause-v2 c = elim [ v2.AC ↦ elim [ v2.AC ↦ refl | _ ↦ refl ] | _ ↦ elim [ v2.AC ↦ refl | _ ↦ refl ] ]

pub returns-clause-v3 : goal.returns-clause-v3
returns-clause-v3 c = elim [ v3.AC ↦ elim [ v3.AC ↦ refl | _ ↦ refl ] | _ ↦ elim [ v3.AC ↦ refl | _ ↦ refl ] ]

pub returns-clause-v4 : goal.returns-clause-v4
returns-clause-v4 c x y = rw (placed x, placed y) (tagged x y)
