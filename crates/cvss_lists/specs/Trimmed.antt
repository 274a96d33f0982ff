-- The answers to lines that may have blanks around their text.
use Rattle.std.specs.Prelude.{◌≡◌, ◌-◌, ◌==◌, ◌||◌, ℕ, Bool, List, [], ◌∷◌, length, refl, take, if◌then◌else◌}
use Rattle.std.specs.List.{suffix_len}
use Rattle.cvss_lines.specs.Answers.{Answer, Accepted, Rule, texts_of}
use Rattle.cvss_lines.specs.Prefixed.{AnswersByOneText}

-- the byte is a space or a tab
abbrev pub is_blank : ℕ → Bool
is_blank byte = (byte == 32) || (byte == 9)

-- the line from its first byte on that is no blank
abbrev pub without_front : List ℕ → List ℕ
without_front [] = []
without_front (byte ∷ bytes) = if is_blank byte then without_front bytes else byte ∷ bytes

-- the line to its last byte that is no blank
abbrev pub without_back : List ℕ → List ℕ
without_back line = take (length line - suffix_len is_blank line) line

-- the line without the blanks around its text
abbrev pub trimmed : List ℕ → List ℕ
trimmed line = without_back (without_front line)

-- a text has its answer by the rule, and an empty one has an empty answer, which accepts it
abbrev pub text_rule : Rule → Rule
text_rule rule number [] answer = answer ≡ Accepted ([] ∷ [])
text_rule rule number (byte ∷ bytes) answer = rule number (byte ∷ bytes) answer

-- a line has the answer to its text
abbrev pub trimmed_rule : Rule → Rule
trimmed_rule rule number line answer = text_rule rule number (trimmed line) answer

-- the answer to a text reports a score of so many tenths
abbrev pub ReportsOfText : (List ℕ → ℕ → Type 0) → List ℕ → ℕ → Type 0
ReportsOfText Reports [] tenths = ⊥
ReportsOfText Reports (byte ∷ bytes) tenths = Reports (byte ∷ bytes) tenths

-- the answer to a line does
abbrev pub ReportsTrimmed : (List ℕ → ℕ → Type 0) → List ℕ → ℕ → Type 0
ReportsTrimmed Reports line tenths = ReportsOfText Reports (trimmed line) tenths

-- the answer to a text is one text, where those by the rule are
one_text_of : (rule : Rule) → AnswersByOneText rule → (number : ℕ) (text : List ℕ) (answer : Answer) → text_rule rule number text answer
    → (own : List ℕ) × (texts_of answer ≡ own ∷ [])
one_text_of rule by_one number [] answer is = rw is ([], refl)
one_text_of rule by_one number (byte ∷ bytes) answer is = by_one number (byte ∷ bytes) answer is

pub is_one_text_if_trimmed : (rule : Rule) → AnswersByOneText rule → AnswersByOneText (trimmed_rule rule)
is_one_text_if_trimmed rule by_one number line answer is = one_text_of rule by_one number (trimmed line) answer is
