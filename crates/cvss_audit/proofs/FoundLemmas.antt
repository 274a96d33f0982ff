-- What is found at the locations of a document, one after another.
use Rattle.std.proofs.Common.{◌≡◌, ℕ, ◌+◌, Bool, true, false, ◌&&◌, if◌then◌else◌, List, [], ◌∷◌, ◌++◌, length, take, flat_map, Option, Some, inl, inr, refl, sym, ap, ap₂, ◌∙◌, subst, append_assoc, append-nil}
use Rattle.std.proofs.KnownBytes.{Appends-kept, Appends-nil, Appends-trans}
use Rattle.std.proofs.Math.Bool.{and-true}
use Rattle.std.proofs.Math.Seq.{take-append-add}
use Rattle.std.proofs.lemmas.Grind.{flat_map-append}
use Rattle.std.proofs.lemmas.List.{flat_map_more}
use Rattle.std.proofs.lemmas.List.Folds.{list_all-append}
use Rattle.std.specs.Io.KnownBytes.{Appends}
use Rattle.std.specs.Str.{IsUtf8}
use Rattle.cvss_lines.specs.Answers.{Answer, Accepted, Rejected, is_accepted, written_answer, written_text}
use Rattle.cvss_lines.specs.Streaming.{IsPassed, WritesWaiting}
use Rattle.cvss_lines.specs.declared.fault.RunFault.{RunFault}
use Rattle.cvss_lines.specs.declared.fault.RunFault.TheVariants.{Memory, Write}
use Rattle.cvss_audit.specs.Locations.{Location, locations_in}
use Rattle.cvss_audit.specs.Answers.{AreFound, Begins, BeginsFound, Found, IsAnswer, IsFound, all_agree, answer_of, texts_of, written_found}
use Rattle.cvss_audit.specs.Inputs.{Input}
use Rattle.cvss_audit.specs.private.Writing.{Answers, PassFound, StopsAnswering, StopsFound, StreamsFound, WritesLocation}
use Rattle.serde_json.specs.Data.{Data}
use Rattle.serde_json.specs.Read.{read}

AreFound-push : (input : Input) (locations : List Location) (found : List Found) (location : Location) (last : Found)
    → AreFound input locations found → IsFound input location last → AreFound input (locations ++ location ∷ []) (found ++ last ∷ [])
AreFound-push input [] [] location last are is = (is, tt)
AreFound-push input [] (each ∷ more) location last are is = absurd are
AreFound-push input (each ∷ more) [] location last are is = absurd are
AreFound-push input (first ∷ locations) (each ∷ more) location last are is = (are.0, AreFound-push input locations more location last are.1 is)

all_agree-push : (found : List Found) (last : Found) → all_agree (found ++ last ∷ []) ≡ (all_agree found && last.agrees)
all_agree-push found last =
    list_all-append (λ (each : Found). each.agrees) found (last ∷ []) ∙ ap (λ b. all_agree found && b) (and-true last.agrees)

texts_of-push : (found : List Found) (last : Found) → texts_of (found ++ last ∷ []) ≡ texts_of found ++ last.texts
texts_of-push found last = sym (flat_map_more (λ (each : Found). each.texts) [] found last)

written-push : (found : List Found) (last : Found) (old middle new : List ℕ)
    → middle ≡ old ++ flat_map written_text (texts_of found) → new ≡ middle ++ flat_map written_text last.texts
    → new ≡ old ++ flat_map written_text (texts_of (found ++ last ∷ []))
written-push found last old middle new before next =
    next ∙ ap (λ bytes. bytes ++ flat_map written_text last.texts) before
    ∙ append_assoc old (flat_map written_text (texts_of found)) (flat_map written_text last.texts)
    ∙ ap (λ bytes. old ++ bytes) (sym (flat_map-append written_text (texts_of found) last.texts))
    ∙ ap (λ texts. old ++ flat_map written_text texts) (sym (texts_of-push found last))

module _ (input : Input) (locations : List Location) where
  -- before the first location
  pub StreamsFound-start : (left : List Location) (old : List ℕ) (w : Option (List ℕ)) → left ≡ locations
      → StreamsFound input locations left old old w w true
  StreamsFound-start left old w all = record {
    seen = [];
    split = sym all;
    found = [];
    are_found = tt;
    reported = refl;
    passed = [];
    pass = inl refl;
    appended = Appends-nil w;
    together = sym (append-nil old);
  }

  -- the locations that are seen with one more, and those that are left
  split_more : (seen : List Location) (location : Location) (left left' : List Location) → locations ≡ seen ++ left → left ≡ location ∷ left'
      → locations ≡ (seen ++ location ∷ []) ++ left'
  split_more seen location left left' split next =
      split ∙ ap (λ each. seen ++ each) next ∙ sym (append_assoc seen (location ∷ []) left')

  -- what is found at one more location is in what was and what may be written
  found_more : (seen : List Location) (location : Location) (left left' : List Location) (found : List Found) (last : Found)
      → locations ≡ seen ++ left → left ≡ location ∷ left' → AreFound input seen found → IsFound input location last
      → BeginsFound input locations (written_found (found ++ last ∷ []))
  found_more seen location left left' found last split next are is = record {
    first = seen ++ location ∷ [];
    others = left';
    split = split_more seen location left left' split next;
    found = found ++ last ∷ [];
    are_found = AreFound-push input seen found location last are is;
    written = refl;
  }

  together_push : (passed waits old middle : List ℕ) (found : List Found) (last : Found) → passed ++ waits ≡ old ++ written_found found
      → middle ≡ waits ++ flat_map written_text last.texts → passed ++ middle ≡ old ++ written_found (found ++ last ∷ [])
  together_push passed waits old middle found last together written =
      ap (λ bytes. passed ++ bytes) written ∙ sym (append_assoc passed waits (flat_map written_text last.texts))
      ∙ written-push found last old (passed ++ waits) ((passed ++ waits) ++ flat_map written_text last.texts) together refl

  -- after one more location, of which what waited may be written
  pub StreamsFound-next : (location : Location) (left left' : List Location) (old waits middle new : List ℕ) (w w' w'' : Option (List ℕ)) (agree agrees : Bool)
      → left ≡ location ∷ left' → StreamsFound input locations left old waits w w' agree → WritesLocation input location waits middle agrees
      → WritesWaiting middle new w' w'' → StreamsFound input locations left' old new w w'' (agree && agrees)
  StreamsFound-next location left left' old waits middle new w w' w'' agree agrees next before wrote = by_case where
    all : before.passed ++ middle ≡ old ++ written_found (before.found ++ wrote.found ∷ [])
    all = together_push before.passed waits old middle before.found wrote.found before.together wrote.written

    more : (passed : List ℕ) → PassFound input locations old passed → Appends w w'' passed
        → passed ++ new ≡ old ++ written_found (before.found ++ wrote.found ∷ []) → StreamsFound input locations left' old new w w'' (agree && agrees)
    more passed pass appended together = record {
      seen = before.seen ++ location ∷ [];
      split = split_more before.seen location left left' before.split next;
      found = before.found ++ wrote.found ∷ [];
      are_found = AreFound-push input before.seen before.found location wrote.found before.are_found wrote.is_found;
      reported = ap₂ (λ (a b : Bool). a && b) before.reported wrote.reported ∙ sym (all_agree-push before.found wrote.found);
      passed = passed;
      pass = pass;
      appended = appended;
      together = together;
    }

    by_case : WritesWaiting middle new w' w'' → StreamsFound input locations left' old new w w'' (agree && agrees)
    by_case (inl kept) =
        more before.passed before.pass (Appends-kept w w' w'' before.passed before.appended kept.1) (ap (λ bytes. before.passed ++ bytes) kept.0 ∙ all)
    by_case (inr flushed) =
        more (before.passed ++ middle)
        (inr (written_found (before.found ++ wrote.found ∷ []), found_more before.seen location left left' before.found wrote.found before.split next before.are_found wrote.is_found, all))
        (Appends-trans w w' w'' before.passed middle before.appended flushed.1)
        (ap (λ bytes. (before.passed ++ middle) ++ bytes) flushed.0 ∙ append-nil (before.passed ++ middle) ∙ all)

  -- a write failed after one more location
  pub StopsFound-write : (location : Location) (left left' : List Location) (old waits middle : List ℕ) (w w' w'' : Option (List ℕ)) (agree agrees : Bool) (fault : RunFault)
      → left ≡ location ∷ left' → StreamsFound input locations left old waits w w' agree → WritesLocation input location waits middle agrees
      → (fault ≡ Write) × ((count : ℕ) × Appends w' w'' (take count middle)) → StopsFound input locations old w w'' fault
  StopsFound-write location left left' old waits middle w w' w'' agree agrees fault next before wrote stopped = record {
    no_read = λ read. absurd (cc stopped.0);
    memory = λ memory. absurd (cc stopped.0);
    write = λ _. record {
      begun = written_found (before.found ++ wrote.found ∷ []);
      begins = found_more before.seen location left left' before.found wrote.found before.split next before.are_found wrote.is_found;
      count = length before.passed + stopped.1.0;
      appended = subst (Appends w w'')
          (sym (take-append-add before.passed middle stopped.1.0)
          ∙ ap (take (length before.passed + stopped.1.0)) (together_push before.passed waits old middle before.found wrote.found before.together wrote.written))
          (Appends-trans w w' w'' before.passed (take stopped.1.0 middle) before.appended stopped.1.1);
    };
  }

-- whether the answer to a document accepts it, and what is written for it
reported_answer : (found : List Found)
    → (all_agree found ≡ is_accepted (answer_of found)) × (flat_map written_text (texts_of found) ≡ written_answer (answer_of found))
reported_answer found = reported (all_agree found) where
  answer : Bool → Answer
  answer b = if b then Accepted (texts_of found) else Rejected (texts_of found)

  reported : (b : Bool) → (b ≡ is_accepted (answer b)) × (flat_map written_text (texts_of found) ≡ written_answer (answer b))
  reported true = (refl, refl)
  reported false = (refl, refl)

-- what may be written of a document
pass_document : (input : Input) (text old passed : List ℕ) (document : Data) → read text ≡ Some document
    → PassFound input (locations_in document) old passed → IsPassed (λ _. Begins input) 1 text old passed
pass_document input text old passed document reads (inl none) = inl none
pass_document input text old passed document reads (inr some) =
    inr (some.0, record { document = document; reads = reads; begins = some.1 }, some.2)

-- the answer to a document whose locations are all seen
pub Streams-document : (input : Input) (text old new : List ℕ) (w w' : Option (List ℕ)) (agree : Bool) (document : Data) → IsUtf8 text
    → read text ≡ Some document → StreamsFound input (locations_in document) [] old new w w' agree
    → Answers input text old new w w' agree
unfolding IsAnswer
Streams-document input text old new w w' agree document utf8 reads streams = record {
  answer = answer_of streams.found;
  answers = inr (inr (inr (record {
    utf8 = utf8;
    document = document;
    reads = reads;
    found = streams.found;
    are_found = subst (λ seen. AreFound input seen streams.found) (sym (streams.split ∙ append-nil streams.seen)) streams.are_found;
    is = refl;
  })));
  reported = streams.reported ∙ (reported_answer streams.found).0;
  passed = streams.passed;
  is_passed = pass_document input text old streams.passed document reads streams.pass;
  appended = streams.appended;
  together = streams.together ∙ ap (λ bytes. old ++ bytes) (reported_answer streams.found).1;
}

-- a fault in the midst of a document
pub Stops-document : (input : Input) (text old : List ℕ) (w w' : Option (List ℕ)) (fault : RunFault) (document : Data) → read text ≡ Some document
    → StopsFound input (locations_in document) old w w' fault → StopsAnswering input text old w w' fault
Stops-document input text old w w' fault document reads stops = record {
  no_read = stops.no_read;
  memory = λ is.
      let lacks = stops.memory is in
      record { passed = lacks.passed; is_passed = pass_document input text old lacks.passed document reads lacks.pass; appended = lacks.appended };
  write = λ is.
      let fails = stops.write is in
      record { begun = fails.begun; begins = record { document = document; reads = reads; begins = fails.begins }; count = fails.count; appended = fails.appended };
}

-- an answer of which nothing is written yet
pub Streams-waiting : (input : Input) (text old new : List ℕ) (w : Option (List ℕ)) (accepted : Bool) (answer : Answer) → IsAnswer input text answer
    → accepted ≡ is_accepted answer → new ≡ old ++ written_answer answer → Answers input text old new w w accepted
Streams-waiting input text old new w accepted answer is reported written = record {
  answer = answer;
  answers = is;
  reported = reported;
  passed = [];
  is_passed = inl refl;
  appended = Appends-nil w;
  together = written;
}

-- memory was refused before anything was written
pub Stops-waiting : (input : Input) (text old : List ℕ) (w : Option (List ℕ)) → StopsAnswering input text old w w Memory
Stops-waiting input text old w = record {
  no_read = λ read. absurd (cc);
  memory = λ _. record { passed = []; is_passed = inl refl; appended = Appends-nil w };
  write = λ write. absurd (cc);
}
