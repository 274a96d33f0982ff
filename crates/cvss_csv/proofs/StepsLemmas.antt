-- What the steps of a run do together.
use Rattle.std.proofs.Common.{◌≡◌, ℕ, Bool, false, List, [], ◌∷◌, ◌++◌, Some, Option, sym, ap, ◌∙◌, subst, append_assoc, append-nil, inl, inr}
use Rattle.std.proofs.lemmas.Grind.{flat_map-append}
use Rattle.cvss_lines.specs.declared.summary.Summary.{Summary}
use Rattle.cvss_csv.specs.Answers.{Answered, IsAnswerTo}
use Rattle.cvss_csv.specs.Records.{Record}
use Rattle.cvss_csv.specs.Layouts.{LacksColumn, SaysFirst}
use Rattle.cvss_csv.specs.Runs.{AreAllAnswers, AreAnswers, answer_bytes, counted_in, summary_by, summary_of}
use Rattle.cvss_csv.specs.private.Counting.{CountsAll}
use Rattle.cvss_csv.specs.private.Steps.{AnswersRecord, CannotAnswer, IsKnown, IsKnownBy, HasAnswered, Stops}
use Rattle.cvss_csv.specs.declared.asked.Asked.{Asked}
use Rattle.cvss_csv.specs.declared.asked.Cells.{Cells}
use Rattle.cvss_csv.specs.declared.asked.Column.{Column}
use Rattle.cvss_csv.specs.declared.fault.CsvFault.{CsvFault}
use Rattle.cvss_csv.specs.declared.progress.Progress.{Progress}
use Rattle.cvss_csv.proofs.CountingLemmas.{summary_by-append}

-- ---- one answer more

answer_bytes-push : (xs : List Answered) (x : Answered) → answer_bytes (xs ++ x ∷ []) ≡ answer_bytes xs ++ x.bytes
answer_bytes-push xs x =
    flat_map-append (λ (each : Answered). each.bytes) xs (x ∷ []) ∙ ap (λ more. answer_bytes xs ++ more) (append-nil x.bytes)

counted_in-push : (xs : List Answered) (x : Answered) → counted_in (xs ++ x ∷ []) ≡ counted_in xs ++ x.counted
counted_in-push xs x =
    flat_map-append (λ (each : Answered). each.counted) xs (x ∷ []) ∙ ap (λ more. counted_in xs ++ more) (append-nil x.counted)

summary_of-push : (old new : Summary) (xs : List Answered) (x : Answered) → old ≡ summary_of xs → CountsAll old x.counted new → new ≡ summary_of (xs ++ x ∷ [])
summary_of-push old new xs x is counts = summary_by-append old new (counted_in xs) x.counted is counts ∙ ap summary_by (sym (counted_in-push xs x))

AreAnswers-push : (asked : Asked) (cells : Cells) (rs : List Record) (xs : List Answered) (r : Record) (x : Answered)
    → AreAnswers asked cells rs xs → IsAnswerTo asked cells false r.body r.line_end x → AreAnswers asked cells (rs ++ r ∷ []) (xs ++ x ∷ [])
AreAnswers-push asked cells [] [] r x are is = (is, tt)
AreAnswers-push asked cells [] (y ∷ xs) r x are is = absurd are
AreAnswers-push asked cells (q ∷ rs) [] r x are is = absurd are
AreAnswers-push asked cells (q ∷ rs) (y ∷ xs) r x are is = (are.0, AreAnswers-push asked cells rs xs r x are.1 is)

-- ---- one record more

module _ (asked : Asked) (column : Column) (r : Record) (x : Answered) (cells : Cells) (is_header : Bool) (is : IsAnswerTo asked cells is_header r.body r.line_end x) where
  -- the records, and which cells are searched, after one more
  abbrev After : List Record → List Answered → Option Cells → Type 0
  After done xs known = AreAllAnswers asked column (done ++ r ∷ []) (xs ++ x ∷ []) × IsKnown column (done ++ r ∷ []) known

  push : (done : List Record) (xs : List Answered) (old new : Option Cells) → AreAllAnswers asked column done xs → IsKnown column done old
      → IsKnownBy column r.body old cells is_header → new ≡ Some cells → After done xs new
  push [] (y ∷ xs) old new are known by is_new = absurd are
  push [] [] old new are known by is_new =
      let says : SaysFirst column r.body cells is_header = subst (λ o. IsKnownBy column r.body o cells is_header) known by in
      ((cells, is_header, says, is, tt), (cells, is_new, says.searched))
  push (first ∷ more) [] old new are known by is_new = absurd are
  push (first ∷ more) (y ∷ xs) old new are known by is_new =
      let same : (cells ≡ known.0) × (is_header ≡ false) = subst (λ o. IsKnownBy column r.body o cells is_header) known.1 by in
      let own : Some are.0 ≡ Some cells = sym are.2.searched ∙ known.2 ∙ ap Some (sym same.0) in
      let searched : are.0 ≡ cells = cc in
      let one : IsAnswerTo asked are.0 false r.body r.line_end x =
      subst (λ h. IsAnswerTo asked are.0 h r.body r.line_end x) same.1 (subst (λ c. IsAnswerTo asked c is_header r.body r.line_end x) (sym searched) is) in (
        (are.0, are.1, are.2, are.3, AreAnswers-push asked are.0 more xs r x are.4 one),
        (cells, is_new, ap (λ c. c) (known.2 ∙ ap Some (sym same.0))),
      )

module _ {asked : Asked} {column : Column} {written : List ℕ} {done : List Record} {old : Progress} (s : HasAnswered asked column written done old) where
  -- one more record is answered
  pub answered_record : (r : Record) (new : Progress) → AnswersRecord column r.body r.line_end old new → HasAnswered asked column written (done ++ r ∷ []) new
  answered_record r new x =
      let is = subst (λ a. IsAnswerTo a x.cells x.is_header r.body r.line_end x.answered) s.is_asked x.is_answer in
      let after = push asked column r x.answered x.cells x.is_header is done s.answers old.cells new.cells s.answered s.is_known x.by x.known in
      record {
        answers = s.answers ++ x.answered ∷ [];
        answered = after.0;
        together = ap (λ more. written ++ more) x.written ∙ sym (append_assoc written old.answers.bytes.items x.answered.bytes)
            ∙ ap (λ front. front ++ x.answered.bytes) s.together ∙ sym (answer_bytes-push s.answers x.answered);
        counted = summary_of-push old.summary new.summary s.answers x.answered s.counted x.counts;
        is_asked = x.asked ∙ s.is_asked;
        is_known = after.1;
      }

  -- the next record, before others, is not answered
  pub Stops_record : (r : Record) (more : List Record) (fault : CsvFault) → CannotAnswer column r.body old fault → Stops column (done ++ r ∷ more) fault
  Stops_record r more fault (inl memory) = inl memory
  Stops_record r more fault (inr lacks) = inr (lacks.0, none_done done s.is_known) where
    none_done : (before : List Record) → IsKnown column before old.cells → LacksColumn column (before ++ r ∷ more)
    none_done [] known = lacks.2
    none_done (first ∷ later) known = absurd (cc (known.1, lacks.1))
