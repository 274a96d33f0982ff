use Rattle.std.proofs.Common.{rules, String, Global, ◌≡◌, ◌↔◌, false, true, IsTrue, string_bytes, string_eq}
use Rattle.std.proofs.lemmas.Bool.Decides.{Decides-and}
use Rattle.cvss_base.specs.declared.error.Error.TheVariants.{InvalidMetricV2, InvalidMetricV3, InvalidMetricV4}
use Rattle.cvss_laws.proofs.base.equality_is_that_of_values.Goals as goal

pub returns-clause-v2 : goal.returns-clause-v2
returns-clause-v2 c = search rules

pub returns-clause-v3 : goal.returns-clause-v3
returns-clause-v3 c = search rules

pub returns-clause-v4 : goal.returns-clause-v4
returns-clause-v4 c = search rules

different : (false ≡ true) ↔ ⊥
different = (λ e. absurd cc, λ e. absurd e)

texts : (x y : String Global) → IsTrue (string_eq x y) ↔ (string_bytes x ≡ string_bytes y)
texts x y = search rules

ruleset cases = (different, texts, returns-clause-v2, returns-clause-v3, returns-clause-v4)

pub returns-clause-error : goal.returns-clause-error
returns-clause-error c = elim [
  | InvalidMetricV2 kind x ↦ elim [ InvalidMetricV2 other y ↦ Decides-and _ _ (returns-clause-v2 c kind other) (texts x y) | _ ↦ different ]
  | InvalidMetricV3 kind x ↦ elim [ InvalidMetricV3 other y ↦ Decides-and _ _ (returns-clause-v3 c kind other) (texts x y) | _ ↦ different ]
  | InvalidMetricV4 kind x ↦ elim [ InvalidMetricV4 other y ↦ Decides-and _ _ (returns-clause-v4 c kind other) (texts x y) | _ ↦ different ]
  | _ ↦ elim [ InvalidMetricV2 _ _ ↦ different | _ ↦ search cases ]
]
