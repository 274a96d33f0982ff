-- Rejections without what breaks a line or a terminal.
use Rattle.std.specs.Prelude.{◌≡◌, ℕ, List, [], ◌∷◌, map, refl}
use Rattle.cvss_frame.specs.Names.{shown_name}
use Rattle.cvss_lines.specs.Answers.{Answer, Accepted, Rejected, Rule, texts_of}
use Rattle.cvss_lines.specs.Prefixed.{AnswersByOneText}

-- the answer, where a rejection has escapes for characters that are not to be seen as themselves
abbrev pub shown_answer : Answer → Answer
shown_answer (Accepted texts) = Accepted texts
shown_answer (Rejected texts) = Rejected (map shown_name texts)

-- this is an answer by the rule, shown
pub record IsShown (rule : Rule) (number : ℕ) (line : List ℕ) (answer : Answer) : Type 0 where
  pub own : Answer
  pub answers : rule number line own
  pub is : answer ≡ shown_answer own

-- it is one text, where that by the rule is
one_text_shown : (own : Answer) → ((text : List ℕ) × (texts_of own ≡ text ∷ [])) → (text : List ℕ) × (texts_of (shown_answer own) ≡ text ∷ [])
one_text_shown (Accepted texts) one = one
one_text_shown (Rejected texts) one = (shown_name one.0, rw one.1 refl)

pub is_one_text_if_shown : (rule : Rule) → AnswersByOneText rule → AnswersByOneText (IsShown rule)
is_one_text_if_shown rule by_one number line answer is = rw is.is (one_text_shown is.own (by_one number line is.own is.answers))
