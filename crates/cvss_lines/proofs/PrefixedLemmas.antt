-- What is written of an answer after a prefix.
use Rattle.std.proofs.Common.{◌≡◌, ℕ, Bool, List, [], ◌∷◌, ◌++◌, flat_map, map, refl, sym, ap, ◌∙◌, append_assoc, append-nil}
use Rattle.cvss_lines.specs.Answers.{Answer, Accepted, Rejected, Rule, WritesAnswer, is_accepted, texts_of, written_text}
use Rattle.cvss_lines.specs.Prefixed.{AnswersByOneText, IsPrefixed, with_prefix}

texts_prefixed : (prefix : List ℕ) (answer : Answer) → texts_of (with_prefix prefix answer) ≡ map (λ text. prefix ++ text) (texts_of answer)
texts_prefixed prefix (Accepted texts) = refl
texts_prefixed prefix (Rejected texts) = refl

accepted_prefixed : (prefix : List ℕ) (answer : Answer) → is_accepted answer ≡ is_accepted (with_prefix prefix answer)
accepted_prefixed prefix (Accepted texts) = refl
accepted_prefixed prefix (Rejected texts) = refl

-- an answer after a prefix, once both are written
pub WritesAnswer-prefixed : (rule : Rule) → AnswersByOneText rule → (prefix : List ℕ) (number : ℕ) (line old middle new : List ℕ) (accepted : Bool) → middle ≡ old ++ prefix
    → WritesAnswer rule number line middle new accepted → WritesAnswer (IsPrefixed prefix rule) number line old new accepted
WritesAnswer-prefixed rule by_one prefix number line old middle new accepted before writes =
    let own = writes.answer in
    let one = by_one number line own writes.answers in
    let texts = texts_prefixed prefix own ∙ ap (map (λ text. prefix ++ text)) one.1 in
    record {
      answer = with_prefix prefix own;
      answers = record { own = own; answers = writes.answers; is = refl };
      reported = writes.reported ∙ accepted_prefixed prefix own;
      written = writes.written
          ∙ ap (λ texts. middle ++ flat_map written_text texts) one.1
          ∙ ap (λ bytes. middle ++ bytes) (append-nil (written_text one.0))
          ∙ ap (λ bytes. bytes ++ written_text one.0) before
          ∙ append_assoc old prefix (written_text one.0)
          ∙ ap (λ bytes. old ++ bytes) (sym (append_assoc prefix one.0 (10 ∷ [])))
          ∙ ap (λ bytes. old ++ bytes) (sym (append-nil (written_text (prefix ++ one.0))))
          ∙ ap (λ texts. old ++ flat_map written_text texts) (sym texts);
    }
