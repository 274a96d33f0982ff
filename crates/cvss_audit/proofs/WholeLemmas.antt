-- How it ends to answer an input that is one document.
use Rattle.std.proofs.Common.{◌≡◌, ℕ, ◌+◌, ◌⊎◌, Bool, List, [], ◌++◌, length, take, Option, None, Some, Result, Err, inl, inr, refl, sym, ap, ◌∙◌, append-nil, subst}
use Rattle.std.proofs.KnownBytes.{Appends-trans}
use Rattle.std.proofs.Math.Seq.{take-append-add}
use Rattle.std.specs.Io.KnownBytes.{Appends, Consumes, IsAtEnd, Keeps}
use Rattle.cvss_lines.specs.Answers.{written_answer}
use Rattle.cvss_lines.specs.declared.fault.RunFault.{RunFault}
use Rattle.cvss_lines.specs.declared.fault.RunFault.TheVariants.{Write}
use Rattle.cvss_lines.specs.declared.summary.Summary.{Summary}
use Rattle.cvss_audit.specs.Answers.{Begins}
use Rattle.cvss_audit.specs.Inputs.{Input}
use Rattle.cvss_audit.specs.Whole.{AnswersBegun, WholeEnds}
use Rattle.cvss_audit.specs.private.Writing.{Answers, StopsAnswering}

kept_of : (w w' : Option (List ℕ)) (passed : List ℕ) → Appends w w' passed → passed ≡ [] → Keeps w w'
kept_of None w' passed appended none = tt
kept_of (Some before) None passed appended none = appended
kept_of (Some before) (Some after) passed appended none = appended ∙ ap (λ bytes. before ++ bytes) none ∙ append-nil before

module _ (input : Input) (u u' w : Option (List ℕ)) where
  module _ (text : List ℕ) (consumed : Consumes u u' text) (at_end : IsAtEnd u') where
    -- a fault in the midst of the answer
    pub WholeEnds-stopped : (w' : Option (List ℕ)) (fault : RunFault) (outcome : Result Summary RunFault)
        → StopsAnswering input text [] w w' fault → outcome ≡ Err fault → WholeEnds input u u' w w' outcome
    WholeEnds-stopped w' fault outcome stops is = subst (WholeEnds input u u' w w') (sym is) (record {
      answered = tt;
      read_fault = λ read. absurd (stops.no_read (cc));
      memory_fault = λ memory.
          let lacks = stops.memory (cc) in
          begun lacks.passed lacks.appended lacks.is_passed;
      write_fault = λ write.
          let fails = stops.write (cc) in
          record {
            bytes = fails.begun;
            begun = record { text = text; consumed = consumed; at_end = at_end; begins = inl fails.begins };
            count = fails.count;
            appended = fails.appended;
          };
    }) where
      begun : (passed : List ℕ) → Appends w w' passed
          → (passed ≡ []) ⊎ ((begun : List ℕ) × Begins input text begun × (passed ≡ [] ++ begun))
          → Keeps w w' ⊎ AnswersBegun input u u' w w'
      begun passed appended (inl none) = inl (kept_of w w' passed appended none)
      begun passed appended (inr some) = inr (record {
        bytes = some.0;
        begun = record { text = text; consumed = consumed; at_end = at_end; begins = inl some.1 };
        appended = subst (Appends w w') some.2 appended;
      })

    -- the answer is known, and a part of it written
    pub WholeEnds-cut : (w' w'' : Option (List ℕ)) (waits : List ℕ) (accepted : Bool) (fault : RunFault) (outcome : Result Summary RunFault)
        → Answers input text [] waits w w' accepted
        → (fault ≡ Write) × ((count : ℕ) × Appends w' w'' (take count waits)) → outcome ≡ Err fault
        → WholeEnds input u u' w w'' outcome
    WholeEnds-cut w' w'' waits accepted fault outcome answers cut is = subst (WholeEnds input u u' w w'') (sym (is ∙ ap Err cut.0)) (record {
      answered = tt;
      read_fault = λ read. absurd (cc);
      memory_fault = λ memory. absurd (cc);
      write_fault = λ write. record {
        bytes = written_answer answers.answer;
        begun = record {
          text = text;
          consumed = consumed;
          at_end = at_end;
          begins = inr (answers.answer, answers.answers, refl);
        };
        count = length answers.passed + cut.1.0;
        appended = subst (Appends w w'')
            (sym (take-append-add answers.passed waits cut.1.0) ∙ ap (take (length answers.passed + cut.1.0)) answers.together)
            (Appends-trans w w' w'' answers.passed (take cut.1.0 waits) answers.appended cut.1.1);
      };
    })
