-- The answers of `cvss explain` for people.
use Rattle.std.specs.Prelude.{◌≡◌, Bool, ℕ, List}
use Rattle.cvss_explain.specs.Text.{IsAcceptance}
use Rattle.cvss_frame.specs.Names.{shown_name}
use Rattle.cvss_lines.specs.Answers.{Rule, by_one_text, written_text}
use Rattle.cvss_vector.specs.Lines.{IsRejection}

-- the line is rejected as where it is scored, with escapes for characters that are not to be seen as themselves
pub record IsShownRejection (allow_incomplete : Bool) (line text : List ℕ) : Type 0 where
  pub error : List ℕ
  pub rejected : IsRejection allow_incomplete line error
  pub is : text ≡ written_text (shown_name error)

-- which answers a line has: one text, whose lines each have a byte 10 at their end, so that an empty line follows
abbrev pub explain_rule : Bool → Bool → Rule
explain_rule what_if allow_incomplete =
    by_one_text (λ number. IsAcceptance what_if allow_incomplete) (λ number. IsShownRejection allow_incomplete)
