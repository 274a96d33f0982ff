-- What is written of an answer whose rejections are shown.
use Rattle.std.proofs.Common.{◌≡◌, ℕ, true, false, List, [], ◌∷◌, ◌++◌, length, refl, sym, ap, ◌∙◌, append-nil}
use Rattle.cvss_frame.specs.Names.{shown_name}
use Rattle.cvss_lines.specs.Answers.{Answer, Accepted, Rejected, Rule, WritesAnswer, is_accepted, texts_of, written_answer}
use Rattle.cvss_lines.specs.Prefixed.{AnswersByOneText}
use Rattle.cvss_lists.specs.Shown.{IsShown}

-- an answer that accepts stays as it is
accepts : (rule : Rule) (number : ℕ) (line old new : List ℕ) (own : Answer) → rule number line own → true ≡ is_accepted own → new ≡ old ++ written_answer own
    → WritesAnswer (IsShown rule) number line old new true
accepts rule number line old new (Accepted texts) answers reported written =
    record { answer = Accepted texts; answers = record { own = Accepted texts; answers = answers; is = refl }; reported = refl; written = written }
accepts rule number line old new (Rejected texts) answers reported written = absurd (let no = reported in cc)

pub accepted : (rule : Rule) (number : ℕ) (line old new : List ℕ) → WritesAnswer rule number line old new true → WritesAnswer (IsShown rule) number line old new true
accepted rule number line old new writes = accepts rule number line old new writes.answer writes.answers writes.reported writes.written

-- one that rejects is written again
rejects : (rule : Rule) (number : ℕ) (line old middle new : List ℕ) (own : Answer) → rule number line own → false ≡ is_accepted own → middle ≡ old ++ written_answer own
    → ((text : List ℕ) × (texts_of own ≡ text ∷ []))
    → ((before text : List ℕ) → length before ≡ length old → middle ≡ before ++ (text ++ 10 ∷ []) → new ≡ before ++ (shown_name text ++ 10 ∷ []))
    → WritesAnswer (IsShown rule) number line old new false
rejects rule number line old middle new (Accepted texts) answers reported written one shows = absurd (let no = reported in cc)
rejects rule number line old middle new (Rejected texts) answers reported written one shows = record {
  answer = Rejected (shown_name one.0 ∷ []);
  answers = record { own = Rejected texts; answers = answers; is = rw one.1 refl };
  reported = refl;
  written =
      shows old one.0 refl (rw one.1 at written ∙ ap (λ bytes. old ++ bytes) (append-nil (one.0 ++ 10 ∷ [])))
      ∙ ap (λ bytes. old ++ bytes) (sym (append-nil (shown_name one.0 ++ 10 ∷ [])));
}

pub rejected : (rule : Rule) → AnswersByOneText rule → (number : ℕ) (line old middle new : List ℕ) → WritesAnswer rule number line old middle false
    → ((before text : List ℕ) → length before ≡ length old → middle ≡ before ++ (text ++ 10 ∷ []) → new ≡ before ++ (shown_name text ++ 10 ∷ []))
    → WritesAnswer (IsShown rule) number line old new false
rejected rule by_one number line old middle new writes shows =
    rejects rule number line old middle new writes.answer writes.answers writes.reported writes.written (by_one number line writes.answer writes.answers) shows
