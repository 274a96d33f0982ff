-- Answers to the lines of an input.
use Rattle.std.specs.Prelude.{◌≡◌, ℕ, ◌+◌, ◌-◌, ◌^◌, min, Bool, true, false, List, [], ◌∷◌, ◌++◌, flat_map, ⊤}

-- an answer to one line: its texts, each without the byte 10 that ends it
pub data Answer : Type 0 where
  Accepted Rejected : List (List ℕ) → Answer

-- the answer's texts
abbrev pub texts_of : Answer → List (List ℕ)
texts_of (Accepted texts) = texts
texts_of (Rejected texts) = texts

-- the line was accepted
abbrev pub is_accepted : Answer → Bool
is_accepted (Accepted texts) = true
is_accepted (Rejected texts) = false

-- the line was rejected
abbrev pub is_rejected : Answer → Bool
is_rejected (Accepted texts) = false
is_rejected (Rejected texts) = true

-- a rule says which answers a line of some number has
abbrev pub Rule : Type 1
Rule = ℕ → List ℕ → Answer → Type 0

-- each answer is one text, which accepts its line or rejects it as is said here
unfoldable pub by_one_text : (ℕ → List ℕ → List ℕ → Type 0) → (ℕ → List ℕ → List ℕ → Type 0) → Rule
by_one_text Accepts Rejects number line (Accepted (text ∷ [])) = Accepts number line text
by_one_text Accepts Rejects number line (Rejected (text ∷ [])) = Rejects number line text
by_one_text Accepts Rejects number line answer = ⊥

-- the number of the next line, as a `u64` that stops at its maximum
abbrev pub next_number : ℕ → ℕ
next_number number = min (number + 1) (2 ^ 64 - 1)

-- the number of the line after these, of which the first has this number
abbrev pub number_after : ℕ → List (List ℕ) → ℕ
number_after number [] = number
number_after number (line ∷ lines) = number_after (next_number number) lines

-- by the rule each line has its answer, in the order of the lines, of which the first has this number
abbrev pub IsAnswers : Rule → ℕ → List (List ℕ) → List Answer → Type 0
IsAnswers rule number [] [] = ⊤
IsAnswers rule number [] (answer ∷ answers) = ⊥
IsAnswers rule number (line ∷ lines) [] = ⊥
IsAnswers rule number (line ∷ lines) (answer ∷ answers) = rule number line answer × IsAnswers rule (next_number number) lines answers

-- what is written for one text: the text and a byte 10
abbrev pub written_text : List ℕ → List ℕ
written_text text = text ++ 10 ∷ []

-- what is written for one answer
abbrev pub written_answer : Answer → List ℕ
written_answer answer = flat_map written_text (texts_of answer)

-- what is written for a list of answers
abbrev pub written_answers : List Answer → List ℕ
written_answers answers = flat_map written_answer answers

-- an answer to the line of this number is written after the earlier ones, and whether it accepts is reported
pub record WritesAnswer (rule : Rule) (number : ℕ) (line old new : List ℕ) (accepted : Bool) : Type 0 where
  pub answer : Answer
  pub answers : rule number line answer
  pub reported : accepted ≡ is_accepted answer
  pub written : new ≡ old ++ written_answer answer
