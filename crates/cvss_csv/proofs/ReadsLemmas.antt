-- How a chunk of the input is answered record by record.
use Rattle.std.proofs.Common.{◌≡◌, ℕ, ◌<◌, false, true, List, [], ◌∷◌, ◌++◌, length, refl, sym, ap, ◌∙◌, append_assoc, append-nil, subst, Result, Ok, Err, IfErr, IsErrAnd}
use Rattle.cvss_csv.specs.Fields.{is_end, line_feed, state_after}
use Rattle.cvss_csv.specs.Records.{ended_record, ended_records, is_open, is_quoted, last_record, records}
use Rattle.cvss_csv.specs.private.Cutting.{IsFirstPiece, IsWithin}
use Rattle.cvss_csv.specs.private.Steps.{AnswersRecord, Awaits, CannotAnswer, EndsInput, Reads, HasAnswered, Stops, StopsEnding, StopsReading}
use Rattle.cvss_csv.specs.declared.asked.Asked.{Asked}
use Rattle.cvss_csv.specs.declared.asked.Column.{Column}
use Rattle.cvss_csv.specs.declared.fault.CsvFault.{CsvFault}
use Rattle.cvss_csv.specs.declared.pending.Pending.{Pending}
use Rattle.cvss_csv.specs.declared.state.State.{State}
use Rattle.cvss_csv.specs.declared.state.State.TheVariants.{Start}
use Rattle.cvss_csv.proofs.ReadingLemmas.{Cut-more, Cut-rest, end_is_outside, feed_restarts, last_record-some, state_append}
use Rattle.cvss_csv.proofs.StepsLemmas.{answered_record, Stops_record}

-- the records of a chunk before the rest of it are answered
pub record HasRead (column : Column) (chunk rest : List ℕ) (first now : Pending) : Type 0 where
  pub done : List ℕ
  pub whole : chunk ≡ done ++ rest
  pub reads : Reads column done first now

pub HasRead_start : (column : Column) (chunk : List ℕ) (now : Pending) → HasRead column chunk chunk now now
HasRead_start column chunk now = record {
  done = [];
  whole = refl;
  reads = λ asked written read a. subst (λ text. Awaits asked column written text now) (sym (append-nil read)) a;
}

-- a result that is an error is the one that a call gave
pub reported_fault : {T : Type 0} (r : Result T CsvFault) (given : CsvFault) (P : CsvFault → Type 0) → IsErrAnd r (λ fault. fault ≡ given) → P given → IfErr r P
reported_fault (Ok value) given P is p = tt
reported_fault (Err fault) given P is p = subst P (sym is) p

-- what is kept and a piece that a line feed ends are a closed record
pub piece_is_closed : (cut piece rest following : List ℕ) (p : State) → state_after Start cut ≡ p → IsFirstPiece line_feed p rest piece following
    → is_open (cut ++ piece) ≡ false
piece_is_closed cut piece rest following p state_is first =
    ap is_quoted (state_append Start cut piece ∙ ap (λ q. state_after q piece) state_is ∙ first.within.leads) ∙ end_is_outside first.last first.ends

-- the state after what is kept
pub state_kept : (cut rest : List ℕ) (p after : State) → state_after Start cut ≡ p → IsWithin line_feed p rest after → state_after Start (cut ++ rest) ≡ after
state_kept cut rest p after state_is within = state_append Start cut rest ∙ ap (λ q. state_after q rest) state_is ∙ within.leads

-- the bytes after a piece end a record
feed_ends : (read piece : List ℕ) (p last : State) → state_after Start read ≡ p → IsWithin line_feed p piece last → is_end line_feed last line_feed ≡ true
    → state_after Start (read ++ (piece ++ line_feed ∷ [])) ≡ Start
feed_ends read piece p last state_is within ends =
    state_append Start read (piece ++ line_feed ∷ []) ∙ ap (λ q. state_after q (piece ++ line_feed ∷ [])) state_is
    ∙ state_append p piece (line_feed ∷ []) ∙ ap (λ q. state_after q (line_feed ∷ [])) within.leads ∙ feed_restarts last ends

-- a record more is answered
Awaits_record : (asked : Asked) (column : Column) (written read piece following : List ℕ) (rest : List ℕ) (now next : Pending) → Awaits asked column written read now
    → IsFirstPiece line_feed now.state rest piece following
    → AnswersRecord column (ended_record (now.cut.items ++ piece)).body (ended_record (now.cut.items ++ piece)).line_end now.progress next.progress
    → next.cut.items ≡ [] → next.state ≡ Start → Awaits asked column written (read ++ (piece ++ line_feed ∷ [])) next
Awaits_record asked column written read piece following rest now next a first answers cleared restarted =
    let cut = Cut-more read now.state first.last a.state_is piece [] first.within first.ends in
    record {
      has_answered = subst (λ done. HasAnswered asked column written done next.progress)
          (ap (λ kept. ended_records read ++ ended_record (kept ++ piece) ∷ []) a.kept ∙ sym cut.0)
          (answered_record a.has_answered (ended_record (now.cut.items ++ piece)) next.progress answers);
      kept = cleared ∙ sym cut.1;
      state_is = feed_ends read piece now.state first.last a.state_is first.within first.ends ∙ sym restarted;
    }

module _ (column : Column) (chunk rest : List ℕ) (first now : Pending) (p : HasRead column chunk rest first now) where
  -- what was read and the rest are what was read and the chunk
  whole_after : (read : List ℕ) → (read ++ p.done) ++ rest ≡ read ++ chunk
  whole_after read = append_assoc read p.done rest ∙ ap (λ r. read ++ r) (sym p.whole)

  module _ (piece following : List ℕ) (cut : IsFirstPiece line_feed now.state rest piece following) where
    pub HasRead_record : (next : Pending)
        → AnswersRecord column (ended_record (now.cut.items ++ piece)).body (ended_record (now.cut.items ++ piece)).line_end now.progress next.progress
        → next.cut.items ≡ [] → next.state ≡ Start → HasRead column chunk following first next
    HasRead_record next answers cleared restarted = record {
      done = p.done ++ (piece ++ line_feed ∷ []);
      whole = p.whole ∙ ap (λ r. p.done ++ r) (cut.is ∙ sym (append_assoc piece (line_feed ∷ []) following))
          ∙ sym (append_assoc p.done (piece ++ line_feed ∷ []) following);
      reads = λ asked written read a.
          subst (λ text. Awaits asked column written text next) (append_assoc read p.done (piece ++ line_feed ∷ []))
          (Awaits_record asked column written (read ++ p.done) piece following rest now next (p.reads asked written read a) cut answers cleared restarted);
    }

    -- a record is not answered
    pub HasRead_stopped : (fault : CsvFault) → CannotAnswer column (ended_record (now.cut.items ++ piece)).body now.progress fault → StopsReading column chunk first fault
    HasRead_stopped fault cannot = λ asked written read a.
        let here = p.reads asked written read a in
        let before = ended_records (read ++ p.done) in
        let all : before ++ ended_record (now.cut.items ++ piece) ∷ ended_records following ≡ ended_records (read ++ chunk) =
        ap (λ kept. before ++ ended_record (kept ++ piece) ∷ ended_records following) here.kept
        ∙ sym (Cut-more (read ++ p.done) now.state cut.last here.state_is piece following cut.within cut.ends).0
        ∙ ap (λ r. ended_records ((read ++ p.done) ++ r)) (sym cut.is) ∙ ap ended_records (whole_after read) in
        subst (λ all. Stops column all fault) all (Stops_record here.has_answered (ended_record (now.cut.items ++ piece)) (ended_records following) fault cannot)

  -- the rest is kept
  pub HasRead_all : (after : State) (next : Pending) → IsWithin line_feed now.state rest after → next.progress ≡ now.progress → next.cut.items ≡ now.cut.items ++ rest
      → next.state ≡ after → Reads column chunk first next
  HasRead_all after next within same kept state_is = λ asked written read a.
      let here = p.reads asked written read a in
      let cut = Cut-rest (read ++ p.done) now.state after here.state_is rest within in
      subst (λ text. Awaits asked column written text next) (whole_after read)
      (record {
        has_answered = subst (λ done. HasAnswered asked column written done next.progress) (sym cut.0)
            (subst (HasAnswered asked column written (ended_records (read ++ p.done))) (sym same) here.has_answered);
        kept = kept ∙ ap (λ k. k ++ rest) here.kept ∙ sym cut.1;
        state_is = state_append Start (read ++ p.done) rest ∙ ap (λ q. state_after q rest) here.state_is ∙ within.leads ∙ sym state_is;
      })

-- ---- the end of the input

module _ (column : Column) (now : Pending) where
  -- the bytes that are kept are the last record
  last_kept : (asked : Asked) (written read : List ℕ) → Awaits asked column written read now → 0 < length now.cut.items
      → ended_records read ++ record { body = now.cut.items; line_end = [] } ∷ [] ≡ records read
  last_kept asked written read a some =
      ap (λ rs. ended_records read ++ rs) (sym (last_record-some now.cut.items some)) ∙ ap (λ kept. ended_records read ++ last_record kept) a.kept

  pub EndsInput_record : (next : Pending) → 0 < length now.cut.items → AnswersRecord column now.cut.items [] now.progress next.progress → EndsInput column now next
  EndsInput_record next some answers = λ asked written read a.
      subst (λ done. HasAnswered asked column written done next.progress) (last_kept asked written read a some)
      (answered_record a.has_answered (record { body = now.cut.items; line_end = [] }) next.progress answers)

  pub StopsEnding_record : (fault : CsvFault) → 0 < length now.cut.items → CannotAnswer column now.cut.items now.progress fault → StopsEnding column now fault
  StopsEnding_record fault some cannot = λ asked written read a.
      subst (λ all. Stops column all fault) (last_kept asked written read a some)
      (Stops_record a.has_answered (record { body = now.cut.items; line_end = [] }) [] fault cannot)

  -- or there is none
  pub EndsInput_none : now.cut.items ≡ [] → EndsInput column now now
  EndsInput_none none = λ asked written read a. subst (λ done. HasAnswered asked column written done now.progress)
      (sym (append-nil (ended_records read)) ∙ ap (λ kept. ended_records read ++ last_record kept) (sym none ∙ a.kept)) a.has_answered
