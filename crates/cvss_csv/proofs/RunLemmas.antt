-- What a run has read and written at each of its ends.
use Rattle.std.proofs.Common.{◌≡◌, ℕ, ◌+◌, List, [], ◌∷◌, ◌++◌, length, take, Option, Result, Ok, Err, ◌<◌, refl, sym, ap, ◌∙◌, subst, append-nil, inl, inr, None, IsErrAnd}
use Rattle.std.specs.Io.KnownBytes.{Appends, Consumes, Keeps, IsAtEnd}
use Rattle.std.proofs.KnownBytes.{Appends-nil, Appends-trans, Consumes-nil, Consumes-trans, Consumes-kept}
use Rattle.std.proofs.Math.Seq.{take-append-add}
use lib.Seq.{take-append_seam}
use Rattle.cvss_lines.specs.declared.buffered.OutputBuffer.{OutputBuffer}
use Rattle.cvss_lines.specs.declared.fault.RunFault.{RunFault}
use Rattle.cvss_lines.specs.declared.fault.RunFault.TheVariants.{Read, Write, Memory}
use Rattle.cvss_csv.specs.Fields.{state_after}
use Rattle.cvss_csv.specs.Answers.{Answered}
use Rattle.cvss_csv.specs.Records.{Record, ended_records, last_record, records}
use Rattle.cvss_csv.specs.Layouts.{LacksColumn}
use Rattle.cvss_csv.specs.Runs.{AreAllAnswers, AreRead, Ends, answer_bytes, summary_of}
use Rattle.cvss_csv.specs.private.Steps.{Awaits, Reads, HasAnswered, Stops, unended_piece}
use Rattle.cvss_csv.specs.declared.asked.Asked.{Asked}
use Rattle.cvss_csv.specs.declared.asked.Column.{Column}
use Rattle.cvss_csv.specs.declared.fault.CsvFault.{CsvFault}
use Rattle.cvss_csv.specs.declared.fault.CsvFault.TheVariants.{Run}
use Rattle.cvss_csv.specs.declared.pending.Pending.{Pending}
use Rattle.cvss_csv.specs.declared.state.State.TheVariants.{Start}
use Rattle.cvss_csv.specs.declared.progress.Progress.{Progress}
use Rattle.cvss_csv.proofs.ReadingLemmas.{ended_before}

-- ---- between two reads

-- all answers to the records that a line feed ends in what was read are written
pub record Between (asked : Asked) (column : Column) (unread unread' written written' : Option (List ℕ)) (pending : Pending) : Type 0 where
  pub input : List ℕ
  pub consumed : Consumes unread unread' input
  pub passed : List ℕ
  pub appended : Appends written written' passed
  pub awaits : Awaits asked column passed input pending
  pub none_waits : pending.progress.answers.bytes.items ≡ []
  pub state_is : state_after Start pending.cut.items ≡ pending.state

-- all of an input is read
pub record IsAllRead (unread unread' : Option (List ℕ)) (input : List ℕ) : Type 0 where
  pub consumed : Consumes unread unread' input
  pub ended : IsAtEnd unread'

pub all_read : {u u' : Option (List ℕ)} (input : List ℕ) → IsAllRead u u' input → AreRead u u' (records input)
all_read input end = record { input = input; consumed = end.consumed; are = inr (end.ended, refl) }

-- no answer is written where the first record has no cell with the name
nothing_passed : (asked : Asked) (column : Column) (passed : List ℕ) (done more : List Record) (now : Progress) → HasAnswered asked column passed done now
    → now.answers.bytes.items ≡ [] → LacksColumn column (done ++ more) → passed ≡ []
nothing_passed asked column passed (first ∷ done) more now s none lacks = absurd (cc (s.is_known.2, lacks))
nothing_passed asked column passed [] more now s none lacks =
    sym (append-nil passed) ∙ ap (λ waits. passed ++ waits) (sym none) ∙ s.together ∙ no_bytes s.answers s.answered where
      no_bytes : (answers : List Answered) → AreAllAnswers asked column [] answers → answer_bytes answers ≡ []
      no_bytes [] are = refl
      no_bytes (answer ∷ answers) are = absurd are

-- a run that ends with the fault that a call gave
pub reported : {T : Type 0} (outcome : Result T CsvFault) (given : CsvFault) (P : Result T CsvFault → Type 0)
    → IsErrAnd outcome (λ fault. fault ≡ given) → P (Err given) → P outcome
reported (Ok x) given P is p = absurd is
reported (Err fault) given P is p = subst (λ f. P (Err f)) (sym is) p

module _ {asked : Asked} {column : Column} where
  -- before the first read, nothing is answered
  pub Between_start : {u w : Option (List ℕ)} (pending : Pending) → pending.cut.items ≡ [] → pending.state ≡ Start → pending.progress.answerer.asked ≡ asked
      → pending.progress.cells ≡ None → pending.progress.answers.bytes.items ≡ [] → pending.progress.summary ≡ summary_of []
      → Between asked column u u w w pending
  Between_start {u} {w} pending none restarted is_asked unknown none_waits fresh = record {
    input = [];
    consumed = Consumes-nil u;
    passed = [];
    appended = Appends-nil w;
    awaits = record {
      has_answered = record { answers = []; answered = tt; together = none_waits; counted = fresh; is_asked = is_asked; is_known = unknown };
      kept = none;
      state_is = sym restarted;
    };
    none_waits = none_waits;
    state_is = ap (state_after Start) none ∙ sym restarted;
  }

  -- what waited is written
  answered_written : (passed : List ℕ) (done : List Record) (now : Progress) (answers : OutputBuffer) → HasAnswered asked column passed done now → answers.bytes.items ≡ []
      → HasAnswered asked column (passed ++ now.answers.bytes.items) done (record now { answers = answers })
  answered_written passed done now answers s none = record {
    answers = s.answers;
    answered = s.answered;
    together = ap (λ more. (passed ++ now.answers.bytes.items) ++ more) none ∙ append-nil _ ∙ s.together;
    counted = s.counted;
    is_asked = s.is_asked;
    is_known = s.is_known;
  }

  all_written : {u0 u w0 w : Option (List ℕ)} {now : Pending} (b : Between asked column u0 u w0 w now) → b.passed ≡ answer_bytes b.awaits.has_answered.answers
  all_written b = sym (append-nil b.passed) ∙ ap (λ waits. b.passed ++ waits) (sym b.none_waits) ∙ b.awaits.has_answered.together

  module _ {u0 u u' w0 w : Option (List ℕ)} {now : Pending} (b : Between asked column u0 u w0 w now) where
    -- after a chunk
    pub Between_chunk : {w' : Option (List ℕ)} {next : Pending} (answers : OutputBuffer) (chunk : List ℕ) → Consumes u u' chunk → Reads column chunk now next
        → state_after Start next.cut.items ≡ next.state → Appends w w' next.progress.answers.bytes.items → answers.bytes.items ≡ []
        → Between asked column u0 u' w0 w' (record next { progress = record next.progress { answers = answers } })
    Between_chunk {w'} {next} answers chunk read reads state_is appended none =
        let here = reads asked b.passed b.input b.awaits in
        record {
          input = b.input ++ chunk;
          consumed = Consumes-trans u0 u u' b.input chunk b.consumed read;
          passed = b.passed ++ next.progress.answers.bytes.items;
          appended = Appends-trans w0 w w' b.passed next.progress.answers.bytes.items b.appended appended;
          awaits = record {
            has_answered = answered_written b.passed _ next.progress answers here.has_answered none;
            kept = here.kept;
            state_is = here.state_is;
          };
          none_waits = none;
          state_is = state_is;
        }

    -- after a read that failed
    pub Ends_unread : Keeps u u' → Ends asked column u0 u' w0 w (Err (Run Read))
    Ends_unread kept = record {
      answered = tt;
      read_fault = λ _. record {
        input = b.input;
        answers = b.awaits.has_answered.answers;
        consumed = Consumes-kept u0 u u' b.input b.consumed kept;
        answered = b.awaits.has_answered.answered;
        appended = subst (Appends w0 w) (all_written b) b.appended;
      };
      memory_fault = λ is. absurd (cc);
      write_fault = λ is. absurd (cc);
      unknown_column = λ is. absurd (cc);
    }

    -- where a read gives no byte and there is room
    pub at_end : (count : ℕ) (buffer : List ℕ) → Consumes u u' (take count buffer) × (count ≡ 0 → 0 < length buffer → IsAtEnd u')
        → count ≡ 0 → 0 < length buffer → IsAllRead u0 u' b.input
    at_end count buffer read none room =
        let nothing = subst (λ n. Consumes u u' (take n buffer)) none read.0 in
        record {
          consumed = subst (Consumes u0 u') (append-nil b.input) (Consumes-trans u0 u u' b.input [] b.consumed nothing);
          ended = read.1 none room;
        }

    -- the records that are ended after a chunk
    pub after_chunk : (chunk : List ℕ) → Consumes u u' chunk → AreRead u0 u' (ended_records (b.input ++ chunk))
    after_chunk chunk read = record {
      input = b.input ++ chunk;
      consumed = Consumes-trans u0 u u' b.input chunk b.consumed read;
      are = inl refl;
    }

    -- a fault before all of these records were answered, of which those of the earlier reads were
    pub Ends_stopped : (input : List ℕ) (all more later : List Record) (fault : CsvFault) → Consumes u0 u' input → AreRead u0 u' all
        → ended_records input ≡ ended_records b.input ++ more → all ≡ ended_records b.input ++ later → Stops column all fault
        → Ends asked column u0 u' w0 w (Err fault)
    Ends_stopped input all more later fault consumed are_read begins is (inl memory) = record {
      answered = tt;
      read_fault = λ is. absurd (cc);
      memory_fault = λ _. record {
        input = input;
        count = length (ended_records b.input);
        answers = b.awaits.has_answered.answers;
        consumed = consumed;
        answered = subst (λ rs. AreAllAnswers asked column rs b.awaits.has_answered.answers)
            (sym (ap (take (length (ended_records b.input))) begins ∙ take-append_seam (ended_records b.input) more)) b.awaits.has_answered.answered;
        appended = subst (Appends w0 w) (all_written b) b.appended;
      };
      write_fault = λ is. absurd (cc);
      unknown_column = λ is. absurd (cc);
    }
    Ends_stopped input all more later fault consumed are_read begins is (inr lacks) = record {
      answered = tt;
      read_fault = λ is. absurd (cc);
      memory_fault = λ is. absurd (cc);
      write_fault = λ is. absurd (cc);
      unknown_column = λ _. record {
        all = all;
        are_read = are_read;
        lacks = lacks.1;
        appended = subst (Appends w0 w)
            (nothing_passed asked column b.passed (ended_records b.input) later now.progress b.awaits.has_answered b.none_waits (subst (LacksColumn column) is lacks.1)) b.appended;
      };
    }

    -- memory is refused between two reads
    pub Ends_memory : Keeps u u' → Ends asked column u0 u' w0 w (Err (Run Memory))
    Ends_memory kept =
        let consumed = Consumes-kept u0 u u' b.input b.consumed kept in
        let same = sym (append-nil (ended_records b.input)) in
        Ends_stopped b.input (ended_records b.input) [] [] (Run Memory) consumed (record { input = b.input; consumed = consumed; are = inl refl }) same same (inl refl)

    -- in a chunk
    pub Ends_chunk : (chunk : List ℕ) (fault : CsvFault) → Consumes u u' chunk → Stops column (ended_records (b.input ++ chunk)) fault
        → Ends asked column u0 u' w0 w (Err fault)
    Ends_chunk chunk fault read stops =
        let begins = ended_before b.input chunk in
        Ends_stopped (b.input ++ chunk) (ended_records (b.input ++ chunk)) begins.0 begins.0 fault
        (Consumes-trans u0 u u' b.input chunk b.consumed read) (after_chunk chunk read) begins.1 begins.1 stops

    -- at the end of the input
    pub Ends_last : (fault : CsvFault) → IsAllRead u0 u' b.input → Stops column (records b.input) fault → Ends asked column u0 u' w0 w (Err fault)
    Ends_last fault end stops =
        Ends_stopped b.input (records b.input) [] (last_record (unended_piece b.input)) fault end.consumed
        (all_read b.input end) (sym (append-nil (ended_records b.input))) refl stops

    -- a fault of the writer after the answers to all of these records
    pub Ends_cut : {w' : Option (List ℕ)} (all : List Record) (next : Progress) (fault : RunFault) → AreRead u0 u' all → HasAnswered asked column b.passed all next
        → (fault ≡ Write) × ((count : ℕ) × Appends w w' (take count next.answers.bytes.items)) → Ends asked column u0 u' w0 w' (Err (Run fault))
    Ends_cut {w'} all next fault are_read s cut = record {
      answered = tt;
      read_fault = λ is. absurd (cc cut.0);
      memory_fault = λ is. absurd (cc cut.0);
      write_fault = λ _. record {
        all = all;
        are_read = are_read;
        answers = s.answers;
        count = length b.passed + cut.1.0;
        answered = s.answered;
        appended = subst (Appends w0 w')
            (sym (take-append-add b.passed next.answers.bytes.items cut.1.0) ∙ ap (take (length b.passed + cut.1.0)) s.together)
            (Appends-trans w0 w w' b.passed (take cut.1.0 next.answers.bytes.items) b.appended cut.1.1);
      };
      unknown_column = λ is. absurd (cc);
    }

    -- after the end of the input
    pub Ends_well : {w' : Option (List ℕ)} (last : Progress) → IsAllRead u0 u' b.input → HasAnswered asked column b.passed (records b.input) last
        → Appends w w' last.answers.bytes.items → Ends asked column u0 u' w0 w' (Ok last.summary)
    Ends_well {w'} last end s appended = record {
      answered = record {
        input = b.input;
        answers = s.answers;
        consumed = end.consumed;
        at_end = end.ended;
        answered = s.answered;
        appended = subst (Appends w0 w') s.together (Appends-trans w0 w w' b.passed last.answers.bytes.items b.appended appended);
        counted = s.counted;
      };
      read_fault = λ is. absurd (cc);
      memory_fault = λ is. absurd (cc);
      write_fault = λ is. absurd (cc);
      unknown_column = λ is. absurd (cc);
    }
