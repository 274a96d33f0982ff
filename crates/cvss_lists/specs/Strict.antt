-- That answers that reject what a standard does not allow are one text, where the others are.
use Rattle.std.specs.Prelude.{◌++◌, codes, refl}
use Rattle.std.proofs.Common.{inl, inr}
use Rattle.cvss_lines.specs.Answers.{Rule}
use Rattle.cvss_lines.specs.Prefixed.{AnswersByOneText}
use Rattle.cvss_lists.specs.Departures.{departure_text, strict_rule}

pub is_one_text_if_strict : (rule : Rule) → AnswersByOneText rule → AnswersByOneText (strict_rule rule)
is_one_text_if_strict rule by_one number line answer is = elim is [
  | inl departed ↦ rw departed.is (codes "error: " ++ departure_text departed.departure, refl)
  | inr allowed ↦ by_one number line answer allowed.1
]
