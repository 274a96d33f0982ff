use Rattle.std.proofs.Common.{◌≡◌, Some, get_or, ap, sym, ◌∙◌, arith, refl}
use Rattle.std.proofs.lemmas.Option.{none-some, same_Some}
use Rattle.cvss_metric.specs.declared.v3.environmental.modified.Modified.TheVariants.{NotDefined, Modified}
use Rattle.cvss_metric.specs.v3.private.ModifiedLaws.{spelled}
use Rattle.cvss_metric.proofs.v3.environmental.modified.ModifiedMetricValue.read_letter.Goals as goal

pub returns-in-88-clause-spelled : goal.returns-in-88-clause-spelled
returns-in-88-clause-spelled c c' = rw c'.in-88.is (spelled c.met.T.BaseValue.base_law NotDefined)

pub returns-in-88-clause-read : goal.returns-in-88-clause-read
returns-in-88-clause-read c c' = elim [
  | NotDefined ↦ λ same. refl
  | Modified x ↦ λ same. absurd (c.met.T.BaseValue.base_law.defined x (sym (spelled c.met.T.BaseValue.base_law (Modified x)) ∙ (rw c'.in-88.is at same)))
]

pub returns-in_ok-read_letter-in_default-clause-spelled : goal.returns-in_ok-read_letter-in_default-clause-spelled
returns-in_ok-read_letter-in_default-clause-spelled c c' =
    spelled c.met.T.BaseValue.base_law (Modified _) ∙ c'.in_ok-read_letter-in_default.ensures.spelled

pub returns-in_err-read_letter-in_default-clause-read : goal.returns-in_err-read_letter-in_default-clause-read
returns-in_err-read_letter-in_default-clause-read c c' = elim [
  | NotDefined ↦ λ same. let letter : 88 ≡ c'.args.letter = ap (λ text. get_or text 0 0) (sym (spelled c.met.T.BaseValue.base_law NotDefined) ∙ same) in absurd (omega arith)
  | Modified x ↦ λ same. absurd (none-some _ (c'.in_err-read_letter-in_default.ensures.read x (sym (spelled c.met.T.BaseValue.base_law (Modified x)) ∙ same)))
]

pub returns-in_ok-read_letter-in_default-clause-read : goal.returns-in_ok-read_letter-in_default-clause-read
returns-in_ok-read_letter-in_default-clause-read c c' = elim [
  | NotDefined ↦ λ same. let letter : 88 ≡ c'.args.letter = ap (λ text. get_or text 0 0) (sym (spelled c.met.T.BaseValue.base_law NotDefined) ∙ same) in absurd (omega arith)
  | Modified x ↦ λ same. ap (λ value. Some (Modified value)) (same_Some _ _ (c'.in_ok-read_letter-in_default.ensures.read x (sym (spelled c.met.T.BaseValue.base_law (Modified x)) ∙ same)))
]
