-- What is written of a verdict.
use Rattle.std.proofs.Common.{◌≡◌, ◌≢◌, ◌∙◌, ℕ, Bool, List, [], ◌∷◌, ◌++◌, None, Option, Result, Ok, Err, IfOk, ap, append_assoc, if◌then◌else◌, length, refl, subst, sym}
use Rattle.cvss_csv.specs.Answers.{Answered, IsAnswer, IsCellAs, IsCellOf, IsOneAnswer, IsVerdictOf, IsWithout, closing, counted_once, searched}
use Rattle.cvss_csv.specs.Cells.{IsReadAs, Nothing, Verdict}
use Rattle.cvss_csv.specs.Fields.{quote}
use Rattle.cvss_csv.specs.Guards.{shown_record}
use Rattle.cvss_csv.specs.Records.{is_open}
use Rattle.cvss_csv.specs.private.Answering.{WritesAnswer}
use Rattle.cvss_csv.specs.declared.asked.Asked.{Asked}
use Rattle.cvss_csv.specs.declared.asked.Cells.{Cells}
use Rattle.cvss_csv.specs.declared.asked.Cells.TheVariants.{At}
use Rattle.cvss_csv.specs.Writing.{Writes}

-- what is written of a verdict is, whatever follows from what the verdict is
pub Writes-weaker : {E : Type 0} (asked : Asked) (P Q : Verdict → Type 0) (old new : List ℕ) (result : Result (Option Bool) E) → ((verdict : Verdict) → P verdict → Q verdict)
    → IfOk result (Writes asked P old new) → IfOk result (Writes asked Q old new)
Writes-weaker asked P Q old new (Ok counted) follows writes = record {
  verdict = writes.verdict;
  is_it = follows writes.verdict writes.is_it;
  cells = writes.cells;
  are = writes.are;
  written = writes.written;
  counts = writes.counts;
}
Writes-weaker asked P Q old new (Err error) follows writes = tt

-- a cell that is not empty is read
pub cell_read : (allow : Bool) (text : List ℕ) (verdict : Verdict) → length text ≢ 0 → IsReadAs allow text verdict → IsCellAs allow text verdict
cell_read allow [] verdict some read = absurd (some refl)
cell_read allow (byte ∷ bytes) verdict some read = read

module _ {E : Type 0} (asked : Asked) (allow : Bool) (index : ℕ) (all : List (List ℕ)) (old new : List ℕ) (result : Result (Option Bool) E) where
  -- a record lacks the cell
  pub without_cell : searched (At index) all ≡ [] → IfOk result (Writes asked (λ verdict. verdict ≡ Nothing) old new) → IfOk result (Writes asked (IsWithout allow (At index) all) old new)
  without_cell none = Writes-weaker asked _ _ old new result (λ verdict is. subst (λ (cells : List (List ℕ)). IsCellOf allow cells verdict) (sym none) is)

  -- a record has the cell
  pub with_cell : (field : List ℕ) → searched (At index) all ≡ field ∷ [] → IfOk result (Writes asked (IsCellOf allow (field ∷ [])) old new) → IfOk result (Writes asked (IsWithout allow (At index) all) old new)
  with_cell field one = Writes-weaker asked _ _ old new result (λ verdict is. subst (λ (cells : List (List ℕ)). IsCellOf allow cells verdict) (sym one) is)

-- ---- the answer to a record

module _ (asked : Asked) (cells : Cells) (is_header : Bool) where
  answer_some : (body line_end : List ℕ) (answered : Answered) → length body ≢ 0 → IsAnswer asked cells is_header body line_end answered → IsOneAnswer asked cells is_header body line_end answered
  answer_some [] line_end answered some is = absurd (some refl)
  answer_some (byte ∷ bytes) line_end answered some is = is

  module _ (body line_end old : List ℕ) where
    -- an empty record stays as it is
    pub empty_answer : (new : List ℕ) → body ≡ [] → new ≡ old ++ line_end → WritesAnswer asked cells is_header body line_end old new None
    empty_answer new none ended = record {
      answered = record { bytes = line_end; counted = [] };
      is_answer = subst (λ (record_body : List ℕ). IsOneAnswer asked cells is_header record_body line_end (record { bytes = line_end; counted = [] })) (sym none) refl;
      written = ended;
      counts = refl;
    }

    -- another has its cells after it, and its line end
    pub whole_answer : (unclosed : Bool) (middle closed answered new : List ℕ) (counted : Option Bool) → length body ≢ 0 → unclosed ≡ is_open body
        → middle ≡ old ++ shown_record asked.guarded body → closed ≡ middle ++ (if unclosed then quote ∷ [] else [])
        → Writes asked (IsVerdictOf unclosed is_header asked.allow_incomplete cells body) closed answered counted → new ≡ answered ++ line_end
        → WritesAnswer asked cells is_header body line_end old new counted
    whole_answer unclosed middle closed answered new counted some is pushed closes writes ended =
        let all = shown_record asked.guarded body ++ (closing body ++ (writes.cells ++ line_end)) in
        let closed_by : closed ≡ middle ++ closing body = closes ∙ ap (λ (is_unclosed : Bool). middle ++ (if is_unclosed then quote ∷ [] else [])) is in
        record {
          answered = record { bytes = all; counted = counted_once counted };
          is_answer = answer_some body line_end (record { bytes = all; counted = counted_once counted }) some (record {
            verdict = writes.verdict;
            is = subst (λ (is_unclosed : Bool). IsVerdictOf is_unclosed is_header asked.allow_incomplete cells body writes.verdict) is writes.is_it;
            appended = writes.cells;
            are = writes.are;
            bytes = refl;
            counts = ap counted_once writes.counts;
          });
          written = ended ∙ ap (λ ys. ys ++ line_end) (writes.written ∙ ap (λ ys. ys ++ writes.cells) (closed_by ∙ ap (λ ys. ys ++ closing body) pushed)) ∙ simp append_assoc;
          counts = refl;
        }
