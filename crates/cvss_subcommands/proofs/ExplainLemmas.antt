-- What is written of explanations whose rejections are shown.
use Rattle.std.proofs.Common.{◌≡◌, ◌-◌, ℕ, Bool, true, false, List, [], ◌∷◌, ◌++◌, arith, length, length-append, take, refl, sym, ap, ◌∙◌, append_assoc, append-nil}
use Rattle.std.proofs.Math.Seq.{take-append_seam}
use Rattle.cvss_explain.specs.Text as text
use Rattle.cvss_frame.specs.Names.{shown_name}
use Rattle.cvss_lines.specs.Answers.{Answer, Accepted, Rejected, WritesAnswer, by_one_text, is_accepted, written_answer, written_text}
use Rattle.cvss_subcommands.specs.Explaining.{explain_rule}

-- an explanation stays as it is
accepts : (what_if allow_incomplete : Bool) (number : ℕ) (line old new : List ℕ) (own : Answer) → text.IsAnswer what_if allow_incomplete number line own
    → true ≡ is_accepted own → new ≡ old ++ written_answer own → WritesAnswer (explain_rule what_if allow_incomplete) number line old new true
unfolding by_one_text
accepts what_if allow_incomplete number line old new (Accepted (text ∷ [])) answers reported written =
    record { answer = Accepted (text ∷ []); answers = answers; reported = refl; written = written }
accepts what_if allow_incomplete number line old new (Rejected (text ∷ [])) answers reported written = absurd (let no = reported in cc)
accepts what_if allow_incomplete number line old new _ answers reported written = absurd answers

pub accepted : (what_if allow_incomplete : Bool) (number : ℕ) (line old new : List ℕ) → WritesAnswer (text.IsAnswer what_if allow_incomplete) number line old new true
    → WritesAnswer (explain_rule what_if allow_incomplete) number line old new true
accepted what_if allow_incomplete number line old new writes =
    accepts what_if allow_incomplete number line old new writes.answer writes.answers writes.reported writes.written

-- a rejection is written again
rejects : (what_if allow_incomplete : Bool) (number : ℕ) (line old middle new : List ℕ) (own : Answer) → text.IsAnswer what_if allow_incomplete number line own
    → false ≡ is_accepted own → middle ≡ old ++ written_answer own
    → ((before text : List ℕ) → length before ≡ length old → middle ≡ before ++ (written_text text ++ 10 ∷ []) → new ≡ before ++ (written_text (shown_name text) ++ 10 ∷ []))
    → WritesAnswer (explain_rule what_if allow_incomplete) number line old new false
unfolding by_one_text
rejects what_if allow_incomplete number line old middle new (Rejected (text ∷ [])) answers reported written shows = record {
  answer = Rejected (written_text (shown_name answers.error) ∷ []);
  answers = record { error = answers.error; rejected = answers.rejected; is = refl };
  reported = refl;
  written =
      shows old answers.error refl (written ∙ ap (λ bytes. old ++ bytes) (append-nil (text ++ 10 ∷ [])) ∙ ap (λ own. old ++ (own ++ 10 ∷ [])) answers.is)
      ∙ ap (λ bytes. old ++ bytes) (sym (append-nil (written_text (shown_name answers.error) ++ 10 ∷ [])));
}
rejects what_if allow_incomplete number line old middle new (Accepted (text ∷ [])) answers reported written shows = absurd (let no = reported in cc)
rejects what_if allow_incomplete number line old middle new _ answers reported written shows = absurd answers

pub rejected : (what_if allow_incomplete : Bool) (number : ℕ) (line old middle new : List ℕ) → WritesAnswer (text.IsAnswer what_if allow_incomplete) number line old middle false
    → ((before text : List ℕ) → length before ≡ length old → middle ≡ before ++ (written_text text ++ 10 ∷ []) → new ≡ before ++ (written_text (shown_name text) ++ 10 ∷ []))
    → WritesAnswer (explain_rule what_if allow_incomplete) number line old new false
rejected what_if allow_incomplete number line old middle new writes shows =
    rejects what_if allow_incomplete number line old middle new writes.answer writes.answers writes.reported writes.written shows

-- the line feed after a rejection is taken back
pub without_last : (items before text new : List ℕ) → items ≡ before ++ (written_text text ++ 10 ∷ []) → new ≡ take (length items - 1) items
    → new ≡ before ++ (text ++ 10 ∷ [])
without_last items before text new is cut =
    let whole = before ++ written_text text in
    let same : items ≡ whole ++ 10 ∷ [] = is ∙ sym (append_assoc before (written_text text) (10 ∷ [])) in
    let count : length items - 1 ≡ length whole = omega (arith, ap length same, length-append whole (10 ∷ [])) in
    cut ∙ ap (λ left. take left items) count ∙ ap (λ bytes. take (length whole) bytes) same ∙ take-append_seam whole (10 ∷ [])
