-- What is written of an answer through a gate.
use Rattle.std.proofs.Common.{◌≡◌, ℕ, Bool, true, false, ◌&&◌, not, List, [], ◌++◌, length, take, refl, sym, ap, ◌∙◌, append-nil, if◌then◌else◌}
use Rattle.std.proofs.Math.Seq.{take-append_seam}
use Rattle.cvss_lines.specs.Answers.{Answer, Accepted, Rejected, Rule, WritesAnswer, is_accepted, written_answer}
use Rattle.cvss_lists.specs.Gated.{IsLetThrough, if_failing, if_printed}

-- the line is accepted where it was and does not fail
accepted_if : (quiet failing : Bool) (own : Answer) → is_accepted (if_printed quiet (if_failing failing own)) ≡ (is_accepted own && not failing)
accepted_if true true (Accepted texts) = refl
accepted_if true true (Rejected texts) = refl
accepted_if true false (Accepted texts) = refl
accepted_if true false (Rejected texts) = refl
accepted_if false true (Accepted texts) = refl
accepted_if false true (Rejected texts) = refl
accepted_if false false (Accepted texts) = refl
accepted_if false false (Rejected texts) = refl

-- what is written where all is printed
written_loud : (failing : Bool) (own : Answer) → written_answer (if_printed false (if_failing failing own)) ≡ written_answer own
written_loud true (Accepted texts) = refl
written_loud true (Rejected texts) = refl
written_loud false own = refl

-- and where nothing is
written_quiet : (failing : Bool) (own : Answer) → written_answer (if_printed true (if_failing failing own)) ≡ []
written_quiet true (Accepted texts) = refl
written_quiet true (Rejected texts) = refl
written_quiet false (Accepted texts) = refl
written_quiet false (Rejected texts) = refl

-- what is written is kept or taken back
written_if : (quiet failing : Bool) (own : Answer) (old middle new : List ℕ) → middle ≡ old ++ written_answer own
    → new ≡ (if quiet then take (length old) middle else middle) → new ≡ old ++ written_answer (if_printed quiet (if_failing failing own))
written_if true failing own old middle new written kept =
    kept ∙ ap (λ bytes. take (length old) bytes) written ∙ take-append_seam old (written_answer own)
    ∙ sym (append-nil old) ∙ ap (λ bytes. old ++ bytes) (sym (written_quiet failing own))
written_if false failing own old middle new written kept =
    kept ∙ written ∙ ap (λ bytes. old ++ bytes) (sym (written_loud failing own))

-- an answer is let through once it is written
pub let_through : (quiet failing : Bool) (rule : Rule) (number : ℕ) (line old middle new : List ℕ) (accepted : Bool) → WritesAnswer rule number line old middle accepted
    → new ≡ (if quiet then take (length old) middle else middle) → WritesAnswer (IsLetThrough quiet failing rule) number line old new (accepted && not failing)
let_through quiet failing rule number line old middle new accepted writes kept = record {
  answer = if_printed quiet (if_failing failing writes.answer);
  answers = record { own = writes.answer; answers = writes.answers; is = refl };
  reported = ap (λ was. was && not failing) writes.reported ∙ sym (accepted_if quiet failing writes.answer);
  written = written_if quiet failing writes.answer old middle new writes.written kept;
}
