-- What a run has read and written at each of its ends.
use Rattle.std.proofs.Common.{◌≡◌, ℕ, ◌+◌, List, [], ◌++◌, ◌⊎◌, length, take, Option, Result, Ok, Err, ◌<◌, refl, sym, ap, ◌∙◌, subst, append-nil, inl, inr, arith, IsErrAnd}
use Rattle.std.specs.Io.KnownBytes.{Appends, Consumes, Keeps, IsAtEnd}
use Rattle.std.proofs.KnownBytes.{Appends-nil, Appends-trans, Consumes-nil, Consumes-trans, Consumes-kept}
use Rattle.cvss_lines.specs.Answers.{IsAnswers, Rule}
use Rattle.cvss_lines.specs.Lines.{ended_lines, lines}
use Rattle.cvss_lines.specs.Runs.{Ends, summary_of}
use Rattle.cvss_lines.specs.Streaming.{AreBegun, Beginning, EndsWithin, StreamEnds}
use Rattle.cvss_lines.specs.private.Steps.{Awaits, Reads, Stands, Stops}
use Rattle.cvss_lines.specs.declared.fault.RunFault.{RunFault}
use Rattle.cvss_lines.specs.declared.fault.RunFault.TheVariants.{Read, Write}
use Rattle.cvss_lines.specs.declared.buffered.OutputBuffer.{OutputBuffer}
use Rattle.cvss_lines.specs.declared.pending.Pending.{Pending}
use Rattle.cvss_lines.specs.declared.progress.Progress.{Progress}
use Rattle.cvss_lines.specs.declared.summary.Summary.{Summary}
use Rattle.cvss_lines.proofs.StepsLemmas.{Stands-written, cut_answers, reported}

module _ (rule : Rule) (beginning : Beginning) where
  -- between two reads: all answers to the lines that a byte 10 ends in what was read are written
  pub record Between (unread unread' written written' : Option (List ℕ)) (pending : Pending) : Type 0 where
    pub input : List ℕ
    pub consumed : Consumes unread unread' input
    pub awaits : Awaits rule beginning written written' input pending
    pub none_waits : pending.progress.answers.bytes.items ≡ []

-- these are the lines that are ended in what was read, or all at the end of the input
pub record AreLinesOf (unread unread' : Option (List ℕ)) (all : List (List ℕ)) (input : List ℕ) : Type 0 where
  pub consumed : Consumes unread unread' input
  pub which : (all ≡ ended_lines input) ⊎ (IsAtEnd unread' × (all ≡ lines input))

pub ended_in : {u u' : Option (List ℕ)} {input : List ℕ} → Consumes u u' input → AreLinesOf u u' (ended_lines input) input
ended_in consumed = record { consumed = consumed; which = inl refl }

module _ {rule : Rule} {beginning : Beginning} where
  -- before the first read, nothing is answered
  pub Between-start : {u w : Option (List ℕ)} (pending : Pending) → pending.cut.items ≡ []
      → pending.progress.answers.bytes.items ≡ [] → pending.progress.summary ≡ summary_of [] → pending.progress.number ≡ 1
      → Between rule beginning u u w w pending
  Between-start {u} {w} pending none none_waits fresh first = record {
    input = [];
    consumed = Consumes-nil u;
    awaits = record {
      stands = record {
        answers = [];
        answered = tt;
        passed = [];
        are_passed = inl (record { count = 0; within = omega arith; answers = []; answered = tt; are = refl });
        appended = Appends-nil w;
        together = none_waits;
        counted = fresh;
        numbered = first;
      };
      kept = none;
    };
    none_waits = none_waits;
  }

  module _ {u0 u u' w0 w : Option (List ℕ)} {now : Pending} (b : Between rule beginning u0 u w0 w now) where
    -- after a chunk
    pub Between-chunk : {w' w'' : Option (List ℕ)} {next : Pending} (answers : OutputBuffer) (chunk : List ℕ) → Consumes u u' chunk
        → Reads rule beginning chunk w w' now next → Appends w' w'' next.progress.answers.bytes.items → answers.bytes.items ≡ []
        → Between rule beginning u0 u' w0 w'' (record next { progress = record next.progress { answers = answers } })
    Between-chunk {w'} {w''} {next} answers chunk read reads appended none =
        let here = reads w0 b.input b.awaits in
        record {
          input = b.input ++ chunk;
          consumed = Consumes-trans u0 u u' b.input chunk b.consumed read;
          awaits = record {
            stands = Stands-written rule beginning w0 w' w'' _ next.progress here.stands answers appended none;
            kept = here.kept;
          };
          none_waits = none;
        }

    -- the lines that are ended after a chunk
    pub after_chunk : (chunk : List ℕ) → Consumes u u' chunk → AreLinesOf u0 u' (ended_lines (b.input ++ chunk)) (b.input ++ chunk)
    after_chunk chunk read = ended_in (Consumes-trans u0 u u' b.input chunk b.consumed read)

    -- all lines, where a read gives no byte and there is room
    pub at_end : (count : ℕ) (buffer : List ℕ) → Consumes u u' (take count buffer) × (count ≡ 0 → 0 < length buffer → IsAtEnd u')
        → count ≡ 0 → 0 < length buffer → AreLinesOf u0 u' (lines b.input) b.input
    at_end count buffer read none room =
        let nothing = subst (λ n. Consumes u u' (take n buffer)) none read.0 in
        record {
          consumed = subst (Consumes u0 u') (append-nil b.input) (Consumes-trans u0 u u' b.input [] b.consumed nothing);
          which = inr (read.1 none room, refl);
        }

    -- after a read that failed
    pub StreamEnds-unread : Keeps u u' → StreamEnds rule beginning u0 u' w0 w (Err Read)
    StreamEnds-unread kept =
        let s = b.awaits.stands in
        record {
          answered = tt;
          read_fault = λ _. record {
            input = b.input;
            answers = s.answers;
            consumed = Consumes-kept u0 u u' b.input b.consumed kept;
            answered = s.answered;
            appended = subst (Appends w0 w) (sym (append-nil s.passed) ∙ ap (λ waits. s.passed ++ waits) (sym b.none_waits) ∙ s.together) s.appended;
          };
          memory_fault = λ is. absurd (cc);
          write_fault = λ is. absurd (cc);
        }

  module _ {u u' : Option (List ℕ)} {input : List ℕ} {all : List (List ℕ)} (of : AreLinesOf u u' all input) where
    within : (bytes : List ℕ) → AreBegun rule beginning 1 all bytes → EndsWithin rule beginning u u' bytes
    within bytes begun = record {
      input = input;
      consumed = of.consumed;
      begun = elim of.which [
        | inl same ↦ inl (subst (λ ls. AreBegun rule beginning 1 ls bytes) same begun)
        | inr last ↦ inr (last.0, subst (λ ls. AreBegun rule beginning 1 ls bytes) last.1 begun)
      ];
    }

    -- a fault before all of them were answered
    pub StreamEnds-stopped : {w w' : Option (List ℕ)} {fault : RunFault} → Stops rule beginning w w' (ended_lines input) all fault → StreamEnds rule beginning u u' w w' (Err fault)
    StreamEnds-stopped {w} {w'} stops = record {
      answered = tt;
      read_fault = λ is. absurd (stops.no_read (cc));
      memory_fault = λ is.
          let x = stops.memory (cc) in
          elim x.are_passed [
            | inl first ↦ inl (record {
              input = input;
              count = first.count;
              answers = first.answers;
              consumed = of.consumed;
              answered = first.answered;
              appended = subst (Appends w w') first.are x.appended;
            })
            | inr begun ↦ inr (record { bytes = x.passed; within = within x.passed begun; appended = x.appended })
          ];
      write_fault = λ is.
          let x = stops.write (cc) in
          inr (record { bytes = x.bytes; within = within x.bytes x.begun; count = x.count; appended = x.appended });
    }

    -- a fault of the writer after all of them
    pub StreamEnds-cut : {w w' v : Option (List ℕ)} {now : Progress} {fault : RunFault} → Stands rule beginning w v all now
        → (fault ≡ Write) × ((count : ℕ) × Appends v w' (take count now.answers.bytes.items)) → StreamEnds rule beginning u u' w w' (Err fault)
    StreamEnds-cut {w} {w'} {v} {now} s cut = record {
      answered = tt;
      read_fault = λ is. absurd (cc cut.0);
      memory_fault = λ is. absurd (cc cut.0);
      write_fault = λ is. inl (record {
        input = input;
        answers = s.answers;
        count = length s.passed + cut.1.0;
        consumed = of.consumed;
        answered = elim of.which [
          | inl same ↦ inl (subst (λ ls. IsAnswers rule 1 ls s.answers) same s.answered)
          | inr last ↦ inr (last.0, subst (λ ls. IsAnswers rule 1 ls s.answers) last.1 s.answered)
        ];
        appended = cut_answers rule beginning w v w' all now s cut.1.0 cut.1.1;
      });
    }

  -- after the end of the input
  pub StreamEnds-well : {u u' w v w' : Option (List ℕ)} (input : List ℕ) {last : Progress} → Consumes u u' input → IsAtEnd u'
      → Stands rule beginning w v (lines input) last → Appends v w' last.answers.bytes.items
      → StreamEnds rule beginning u u' w w' (Ok last.summary)
  StreamEnds-well {u} {u'} {w} {v} {w'} input {last} consumed end s appended = record {
    answered = record {
      input = input;
      answers = s.answers;
      consumed = consumed;
      at_end = end;
      answered = s.answered;
      appended = subst (Appends w w') s.together (Appends-trans w v w' s.passed last.answers.bytes.items s.appended appended);
      counted = s.counted;
    };
    read_fault = λ is. absurd (cc);
    memory_fault = λ is. absurd (cc);
    write_fault = λ is. absurd (cc);
  }

  -- a run that ends with the fault that a call gave
  pub StreamEnds-reported : {u u' w w' : Option (List ℕ)} (outcome : Result Summary RunFault) {given : RunFault}
      → IsErrAnd outcome (λ fault. fault ≡ given) → StreamEnds rule beginning u u' w w' (Err given) → StreamEnds rule beginning u u' w w' outcome
  StreamEnds-reported {u} {u'} {w} {w'} outcome {given} is ends = reported outcome given (StreamEnds rule beginning u u' w w') is ends

-- where no answer may be begun, what ends in the midst of one is nothing
module _ (rule : Rule) (u u' w w' : Option (List ℕ)) where
  none_within : (bytes : List ℕ) → EndsWithin rule (λ _ _ _. ⊥) u u' bytes → ⊥
  none_within bytes within = elim within.begun [ inl begun ↦ begun.begins | inr last ↦ last.1.begins ]

  pub ends_whole : (outcome : Result Summary RunFault) → StreamEnds rule (λ _ _ _. ⊥) u u' w w' outcome → Ends rule u u' w w' outcome
  ends_whole outcome ends = record {
    answered = ends.answered;
    read_fault = ends.read_fault;
    memory_fault = λ is. elim (ends.memory_fault is) [
      | inl first ↦ first
      | inr begun ↦ absurd (none_within begun.bytes begun.within)
    ];
    write_fault = λ is. elim (ends.write_fault is) [
      | inl cut ↦ cut
      | inr broken ↦ absurd (none_within broken.bytes broken.within)
    ];
  }
