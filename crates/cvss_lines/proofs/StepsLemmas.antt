-- What the steps of a run do together.
use Rattle.std.proofs.Common.{◌≡◌, refl, ℕ, ◌+◌, Bool, List, length, [], ◌∷◌, ◌++◌, take, Option, Result, Ok, Err, sym, ap, ◌∙◌, subst, append-nil, append_assoc, length-append, arith, inl, inr, IfErr, IsErr, IsErrAnd, OnOk}
use Rattle.std.specs.Io.KnownBytes.{Appends}
use Rattle.std.proofs.KnownBytes.{Appends-trans}
use Rattle.std.proofs.Math.Seq.{take-append-add, take-length}
use Rattle.std.proofs.lemmas.List.{take-append-le}
use Rattle.cvss_lines.specs.Answers.{Answer, IsAnswers, Rule, is_accepted, next_number, written_answer, written_answers}
use Rattle.cvss_lines.specs.Streaming.{AreBegun, Beginning, IsPassed, Stops as LineStops, Streams}
use Rattle.cvss_lines.specs.private.Steps.{AreFirst, ArePassed, Counts, Stands, Stops, StopsAnswering}
use Rattle.cvss_lines.specs.declared.fault.RunFault.{RunFault}
use Rattle.cvss_lines.specs.declared.fault.RunFault.TheVariants.{Memory}
use Rattle.cvss_lines.specs.declared.buffered.OutputBuffer.{OutputBuffer}
use Rattle.cvss_lines.specs.declared.progress.Progress.{Progress}
use Rattle.cvss_lines.proofs.AnswersLemmas.{IsAnswers-push, number_after-push, summary_of-push, written_answers-push}

-- a result whose fault is the one that a call gave
pub reported : {T : Type 0} (r : Result T RunFault) (given : RunFault) (P : Result T RunFault → Type 0)
    → IsErrAnd r (λ fault. fault ≡ given) → P (Err given) → P r
reported (Ok x) given P is p = absurd is
reported (Err fault) given P is p = subst (λ f. P (Err f)) (sym is) p

-- what holds of the fault that a call gave holds of the result's
pub reported_fault : {T : Type 0} (r : Result T RunFault) (given : RunFault) (P : RunFault → Type 0) → IsErrAnd r (λ fault. fault ≡ given)
    → P given → IfErr r P
reported_fault r given P is p = reported r given (λ result. IfErr result P) is p

-- a fault promises nothing of an end that is well
pub none_ok : {T E : Type 0} (P : Type 0) (outcome : Result T E) → IsErr outcome → OnOk outcome P
none_ok P (Ok value) is = absurd (cc)
none_ok P (Err error) is = tt

module _ (rule : Rule) (beginning : Beginning) where
  -- whole answers to the first of more lines
  pub AreFirst-more : (ls ms : List (List ℕ)) (bytes : List ℕ) → AreFirst rule ls bytes → AreFirst rule (ls ++ ms) bytes
  AreFirst-more ls ms bytes f = record {
    count = f.count;
    within = omega (arith, f.within, length-append ls ms);
    answers = f.answers;
    answered = subst (λ front. IsAnswers rule 1 front f.answers) (sym (take-append-le f.count ls ms f.within)) f.answered;
    are = f.are;
  }

  -- what ends in the midst of an answer to one of more lines
  pub AreBegun-more : (ls ms : List (List ℕ)) (bytes : List ℕ) → AreBegun rule beginning 1 ls bytes → AreBegun rule beginning 1 (ls ++ ms) bytes
  AreBegun-more ls ms bytes b = record {
    front = b.front;
    line = b.line;
    back = b.back ++ ms;
    split = ap (λ lines. lines ++ ms) b.split ∙ append_assoc b.front (b.line ∷ b.back) ms;
    answers = b.answers;
    answered = b.answered;
    begun = b.begun;
    begins = b.begins;
    are = b.are;
  }

  module _ (start w w' : Option (List ℕ)) (lines : List (List ℕ)) (now : Progress) (s : Stands rule beginning start w lines now) where
    -- what ends in the midst of the answer to the next line
    AreBegun-next : (line begun bytes : List ℕ) → beginning now.number line begun → bytes ≡ now.answers.bytes.items ++ begun
        → AreBegun rule beginning 1 (lines ++ line ∷ []) (s.passed ++ bytes)
    AreBegun-next line begun bytes begins is = record {
      front = lines;
      line = line;
      back = [];
      split = refl;
      answers = s.answers;
      answered = s.answered;
      begun = begun;
      begins = subst (λ number. beginning number line begun) s.numbered begins;
      are = ap (λ more. s.passed ++ more) is ∙ sym (append_assoc s.passed now.answers.bytes.items begun)
          ∙ ap (λ front. front ++ begun) s.together;
    }

    -- what is written of the answer to the next line
    passed_next : (line passed : List ℕ) → IsPassed beginning now.number line now.answers.bytes.items passed
        → ArePassed rule beginning lines (lines ++ line ∷ []) (s.passed ++ passed)
    passed_next line passed (inl none) = subst (ArePassed rule beginning lines (lines ++ line ∷ []))
        (sym (ap (λ more. s.passed ++ more) none ∙ append-nil s.passed))
        (elim s.are_passed [ inl first ↦ inl first | inr begun ↦ inr (AreBegun-more lines (line ∷ []) s.passed begun) ])
    passed_next line passed (inr some) = inr (AreBegun-next line some.0 passed some.1 some.2)

    -- the next line is answered
    pub Stands_line : (next : Progress) (line : List ℕ) (accepted : Bool)
        → Streams rule beginning now.number line now.answers.bytes.items next.answers.bytes.items w w' accepted
        → ((answer : Answer) → accepted ≡ is_accepted answer → Counts now.summary answer next.summary)
        → next.number ≡ next_number now.number → Stands rule beginning start w' (lines ++ line ∷ []) next
    Stands_line next line accepted x counts numbered = record {
      answers = s.answers ++ x.answer ∷ [];
      answered = IsAnswers-push rule 1 lines s.answers line x.answer s.answered
          (subst (λ number. rule number line x.answer) s.numbered x.answers);
      passed = s.passed ++ x.passed;
      are_passed = elim (passed_next line x.passed x.is_passed) [
        | inl first ↦ inl (AreFirst-more lines (line ∷ []) (s.passed ++ x.passed) first)
        | inr begun ↦ inr begun
      ];
      appended = Appends-trans start w w' s.passed x.passed s.appended x.appended;
      together = append_assoc s.passed x.passed next.answers.bytes.items ∙ ap (λ more. s.passed ++ more) x.together
          ∙ sym (append_assoc s.passed now.answers.bytes.items (written_answer x.answer))
          ∙ ap (λ front. front ++ written_answer x.answer) s.together ∙ sym (written_answers-push s.answers x.answer);
      counted = summary_of-push now.summary next.summary s.answers x.answer s.counted (counts x.answer x.reported);
      numbered = numbered ∙ ap next_number s.numbered ∙ sym (number_after-push 1 lines line);
    }

    -- a fault in the midst of the next line
    pub Stops_line : (line : List ℕ) (fault : RunFault) → LineStops beginning now.number line now.answers.bytes.items w w' fault
        → Stops rule beginning start w' lines (lines ++ line ∷ []) fault
    Stops_line line fault stops = record {
      no_read = stops.no_read;
      memory = λ is.
          let x = stops.memory is in
          record {
            passed = s.passed ++ x.passed;
            are_passed = passed_next line x.passed x.is_passed;
            appended = Appends-trans start w w' s.passed x.passed s.appended x.appended;
          };
      write = λ is.
          let x = stops.write is in
          record {
            bytes = s.passed ++ (now.answers.bytes.items ++ x.begun);
            begun = AreBegun-next line x.begun _ x.begins refl;
            count = length s.passed + x.count;
            appended = subst (Appends start w') (sym (take-append-add s.passed (now.answers.bytes.items ++ x.begun) x.count))
                (Appends-trans start w w' s.passed _ s.appended x.appended);
          };
    }

    -- what waited is written
    pub Stands-written : (answers : OutputBuffer) → Appends w w' now.answers.bytes.items → answers.bytes.items ≡ []
        → Stands rule beginning start w' lines (record now { answers = answers })
    Stands-written answers appended none = record {
      answers = s.answers;
      answered = s.answered;
      passed = s.passed ++ now.answers.bytes.items;
      are_passed = inl (record {
        count = length lines;
        within = omega arith;
        answers = s.answers;
        answered = subst (λ front. IsAnswers rule 1 front s.answers) (sym (take-length lines)) s.answered;
        are = s.together;
      });
      appended = Appends-trans start w w' s.passed now.answers.bytes.items s.appended appended;
      together = ap (λ more. (s.passed ++ now.answers.bytes.items) ++ more) none ∙ append-nil _ ∙ s.together;
      counted = s.counted;
      numbered = s.numbered;
    }

    -- a beginning of what waited is written
    pub cut_answers : (count : ℕ) → Appends w w' (take count now.answers.bytes.items)
        → Appends start w' (take (length s.passed + count) (written_answers s.answers))
    cut_answers count appended = subst (Appends start w')
        (sym (take-append-add s.passed now.answers.bytes.items count) ∙ ap (take (length s.passed + count)) s.together)
        (Appends-trans start w w' s.passed (take count now.answers.bytes.items) s.appended appended)

  -- a fault before lines of more were answered
  pub Stops-more : (start w : Option (List ℕ)) (some all ls ms : List (List ℕ)) (fault : RunFault)
      → ((bytes : List ℕ) → AreFirst rule some bytes → AreFirst rule ls bytes)
      → ((bytes : List ℕ) → AreBegun rule beginning 1 all bytes → AreBegun rule beginning 1 ms bytes)
      → Stops rule beginning start w some all fault → Stops rule beginning start w ls ms fault
  Stops-more start w some all ls ms fault first begun stops = record {
    no_read = stops.no_read;
    memory = λ is.
        let x = stops.memory is in
        record {
          passed = x.passed;
          are_passed = elim x.are_passed [ inl f ↦ inl (first x.passed f) | inr b ↦ inr (begun x.passed b) ];
          appended = x.appended;
        };
    write = λ is.
        let x = stops.write is in record { bytes = x.bytes; begun = begun x.bytes x.begun; count = x.count; appended = x.appended };
  }

  -- memory was refused between two lines
  pub Stops-memory : (start w : Option (List ℕ)) (lines : List (List ℕ)) (now : Progress) → Stands rule beginning start w lines now
      → Stops rule beginning start w lines lines Memory
  Stops-memory start w lines now s = record {
    no_read = λ is. absurd (cc);
    memory = λ _. record { passed = s.passed; are_passed = s.are_passed; appended = s.appended };
    write = λ is. absurd (cc);
  }

  pub StopsAnswering-memory : (more : List (List ℕ)) (w : Option (List ℕ)) (now : Progress) → StopsAnswering rule beginning more w w now Memory
  StopsAnswering-memory more w now = λ start lines s.
      Stops-more start w lines lines lines (lines ++ more) Memory (λ _ first. first) (AreBegun-more lines more) (Stops-memory start w lines now s)
