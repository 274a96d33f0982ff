-- Answers after a prefix, as the name of a file and a colon where several files are read.
use Rattle.std.specs.Prelude.{◌≡◌, ℕ, List, [], ◌∷◌, ◌++◌, map, refl}
use Rattle.cvss_lines.specs.Answers.{Answer, Accepted, Rejected, Rule, by_one_text, texts_of}

-- the answer, each text of which begins with this
abbrev pub with_prefix : List ℕ → Answer → Answer
with_prefix prefix (Accepted texts) = Accepted (map (λ text. prefix ++ text) texts)
with_prefix prefix (Rejected texts) = Rejected (map (λ text. prefix ++ text) texts)

-- this is an answer by a rule, each text of which begins with this
pub record IsPrefixed (prefix : List ℕ) (rule : Rule) (number : ℕ) (line : List ℕ) (answer : Answer) : Type 0 where
  pub own : Answer
  pub answers : rule number line own
  pub is : answer ≡ with_prefix prefix own

-- each answer by the rule is one text
abbrev pub AnswersByOneText : Rule → Type 0
AnswersByOneText rule = (number : ℕ) (line : List ℕ) (answer : Answer) → rule number line answer → (text : List ℕ) × (texts_of answer ≡ text ∷ [])

pub is_one_text : (Accepts Rejects : ℕ → List ℕ → List ℕ → Type 0) → AnswersByOneText (by_one_text Accepts Rejects)
unfolding by_one_text
is_one_text Accepts Rejects number line (Accepted (text ∷ [])) is = (text, refl)
is_one_text Accepts Rejects number line (Rejected (text ∷ [])) is = (text, refl)
is_one_text Accepts Rejects number line _ is = absurd is
