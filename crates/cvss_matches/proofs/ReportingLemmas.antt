-- How the candidates of a line are reported of one after another.
use Rattle.std.proofs.Common.{◌≡◌, ℕ, Bool, true, false, ◌&&◌, cond, not, List, [], ◌∷◌, ◌++◌, drop, flat_map, length, inl, None, Option, refl, sym, ap, ap₂, ◌∙◌, subst, append_assoc, append-nil, arith, codes, decimal}
use Rattle.std.proofs.Math.Bool.{and-true}
use Rattle.std.proofs.lemmas.Bool.{cond-false}
use Rattle.std.specs.Option.{option_or}
use Rattle.std.proofs.lemmas.Fmt.{decimal_digit}
use Rattle.std.proofs.lemmas.List.{drop_all}
use Rattle.std.proofs.lemmas.List.Concat.{flat_map-append}
use Rattle.std.proofs.lemmas.List.Elements.{All-nil}
use Rattle.std.proofs.lemmas.List.Folds.{list_all-append}
use Rattle.std.specs.Prelude.{bytes_eq}
use Rattle.cvss_vector.specs.Complete.{IsPublishedOfComplete}
use Rattle.cvss_vector.specs.declared.published.Published.{Published}
use Rattle.cvss_vector.specs.Lines.{score_rule}
use Rattle.cvss_vector.specs.declared.scoring.Scoring.{Scoring}
use Rattle.cvss_vector.specs.declared.setting.Version.{Version}
use Rattle.cvss_lines.specs.Answers.{Accepted, Rejected, WritesAnswer, is_accepted, written_answer, written_text}
use Rattle.cvss_lines.specs.Prefixed.{AnswersByOneText, is_one_text}
use Rattle.cvss_matches.specs.Answers.{AreKept, Asked, IsKept, Kept, after_candidate, all_accepted, answer_with, answered_bytes, answered_text, answers_as, before_answer, kept_texts, linked_version, location_text, shows_all, texts_for, with_version}
use Rattle.cvss_matches.specs.Decoding.{decoded}
use Rattle.cvss_matches.specs.declared.form.Form.{Form}
use Rattle.cvss_matches.specs.declared.form.Form.TheVariants.{Annotated, Located, Object}
use Rattle.cvss_matches.specs.private.Reporting.{AnswersLine, Reports, WritesKept, WritesReported, WritesShown, closing, opening, written_as}
use Rattle.cvss_matches.proofs.AcceptedLemmas.{accepted_alone, accepted_whole}
use Rattle.cvss_matches.specs.Matches.{AreFound, Candidate, IsAccepted, IsFound, candidates_of}
use Rattle.cvss_matches.specs.Parts.{lacks_prefix}
use Rattle.cvss_matches.specs.CandidatesLeft.{IsFirstFound, NoneFound}
use Rattle.cvss_matches.proofs.DecodingLemmas.{written_decoded}
use Rattle.cvss_matches.proofs.FoundLemmas.{AreFound-first, AreFound-none}
use Rattle.cvss_matches.proofs.KeptLemmas.{kept_reported}
use Rattle.cvss_matches.proofs.UnprefixedLemmas.{accepted_has_prefix}

one_text : (form : Form) (scoring : Scoring) (allow : Bool) → AnswersByOneText (answers_as form scoring allow)
one_text Located scoring allow = is_one_text _ _
one_text Object scoring allow = is_one_text _ _
one_text (Annotated all) scoring allow = is_one_text _ _

-- a candidate is reported of, once its answer is written after what is before it, and the byte 10 stays or is taken off
pub WritesReported-answer : (asked : Asked) (candidate : Candidate) (old middle full new : List ℕ) (accepted : Bool) → middle ≡ old ++ before_answer asked.form asked candidate
    → WritesAnswer (answers_as asked.form asked.scoring asked.allow_incomplete) asked.number (answered_text asked candidate) middle full accepted
    → ((before text : List ℕ) → full ≡ before ++ written_text text → new ≡ before ++ written_as asked.form text)
    → WritesReported asked candidate old new accepted
WritesReported-answer asked candidate old middle full new accepted placed written ended =
    let one = one_text asked.form asked.scoring asked.allow_incomplete asked.number (answered_text asked candidate) written.answer written.answers in
    let before = before_answer asked.form asked candidate in
    record {
      reported = record { text = before ++ one.0; accepts = is_accepted written.answer };
      is_reported = record {
        answer = written.answer;
        text = one.0;
        answers = written.answers;
        one_text = one.1;
        is = refl;
        accepted = refl;
      };
      accepts = written.reported;
      written = ended old (before ++ one.0)
          (written.written
          ∙ ap (λ texts. middle ++ flat_map written_text texts) one.1
          ∙ ap (λ bytes. middle ++ bytes) (append-nil (written_text one.0))
          ∙ ap (λ bytes. bytes ++ written_text one.0) placed
          ∙ append_assoc old before (written_text one.0)
          ∙ ap (λ bytes. old ++ bytes) (sym (append_assoc before one.0 (10 ∷ []))));
    }

AreKept-push : (asked : Asked) (candidates : List Candidate) (kept : List Kept) (candidate : Candidate) (last : Kept)
    → AreKept asked candidates kept → IsKept asked.gate asked candidate last → AreKept asked (candidates ++ candidate ∷ []) (kept ++ last ∷ [])
AreKept-push asked [] [] candidate last are is = (is, tt)
AreKept-push asked [] (each ∷ more) candidate last are is = absurd are
AreKept-push asked (each ∷ more) [] candidate last are is = absurd are
AreKept-push asked (first ∷ candidates) (each ∷ more) candidate last are is = (are.0, AreKept-push asked candidates more candidate last are.1 is)

all_accepted-push : (kept : List Kept) (last : Kept) → all_accepted (kept ++ last ∷ []) ≡ (all_accepted kept && last.accepts)
all_accepted-push kept last =
    list_all-append (λ (each : Kept). each.accepts) kept (last ∷ []) ∙ ap (λ b. all_accepted kept && b) (and-true last.accepts)

kept_texts-push : (kept : List Kept) (last : Kept) → kept_texts (kept ++ last ∷ []) ≡ kept_texts kept ++ last.texts
kept_texts-push kept last =
    flat_map-append (λ (each : Kept). each.texts) kept (last ∷ []) ∙ ap (λ texts. kept_texts kept ++ texts) (append-nil last.texts)

written-push : (write : List ℕ → List ℕ) (kept : List Kept) (last : Kept) (old middle new : List ℕ)
    → middle ≡ old ++ flat_map write (kept_texts kept) → new ≡ middle ++ flat_map write last.texts
    → new ≡ old ++ flat_map write (kept_texts (kept ++ last ∷ []))
written-push write kept last old middle new before next =
    next ∙ ap (λ bytes. bytes ++ flat_map write last.texts) before ∙ append_assoc old (flat_map write (kept_texts kept)) (flat_map write last.texts)
    ∙ ap (λ bytes. old ++ bytes) (sym (flat_map-append write (kept_texts kept) last.texts))
    ∙ ap (λ texts. old ++ flat_map write texts) (sym (kept_texts-push kept last))

-- before the first candidate
pub Reports-start : (asked : Asked) (bytes : List ℕ) (left : List Candidate) → left ≡ candidates_of asked.line → Reports asked left bytes bytes true
Reports-start asked bytes left is = record {
  found = [];
  are_found = λ more are. subst (λ candidates. AreFound candidates more) is are;
  kept = [];
  are_kept = tt;
  accepts = refl;
  written = sym (append-nil bytes);
}

-- after one more that is found
pub Reports-next : (asked : Asked) (left after : List Candidate) (candidate : Candidate) (old middle new : List ℕ) (all accepted : Bool)
    → Reports asked left old middle all → IsFirstFound left candidate after → WritesKept (IsKept asked.gate asked candidate) asked.form middle new accepted → Reports asked after old new (all && accepted)
Reports-next asked left after candidate old middle new all accepted before first next = record {
  found = before.found ++ candidate ∷ [];
  are_found = λ more are. subst (AreFound (candidates_of asked.line)) (sym (append_assoc before.found (candidate ∷ []) more))
      (before.are_found (candidate ∷ more) (AreFound-first left after candidate more first are));
  kept = before.kept ++ next.kept ∷ [];
  are_kept = AreKept-push asked before.found before.kept candidate next.kept before.are_kept next.is_kept;
  accepts = ap₂ (λ (a b : Bool). a && b) before.accepts next.accepts ∙ sym (all_accepted-push before.kept next.kept);
  written = written-push (written_as asked.form) before.kept next.kept old middle new before.written next.written;
}

-- all that are found are shown, once no more is found
pub shown_all : (asked : Asked) (left : List Candidate) (old new : List ℕ) (all : Bool) → Reports asked left old new all → NoneFound left → WritesShown true asked old new all
shown_all asked left old new all reports none = record {
  shown = reports.found;
  are_shown = subst (AreFound (candidates_of asked.line)) (append-nil reports.found) (reports.are_found [] (AreFound-none left none));
  kept = reports.kept;
  are_kept = reports.are_kept;
  accepts = reports.accepts;
  written = reports.written;
}

-- the first is shown
pub shown_first : (asked : Asked) (candidate : Candidate) (left : List Candidate) (old new : List ℕ) (accepted : Bool) → IsFirstFound (candidates_of asked.line) candidate left
    → WritesKept (IsKept asked.gate asked candidate) asked.form old new accepted → WritesShown false asked old new accepted
shown_first asked candidate left old new accepted first written = record {
  shown = candidate ∷ [];
  are_shown = (left, first);
  kept = written.kept ∷ [];
  are_kept = (written.is_kept, tt);
  accepts = written.accepts ∙ sym (and-true written.kept.accepts);
  written = written.written ∙ ap (λ texts. old ++ flat_map (written_as asked.form) texts) (sym (append-nil written.kept.texts));
}

-- none is shown
pub shown_none : (asked : Asked) (bytes : List ℕ) → NoneFound (candidates_of asked.line) → WritesShown false asked bytes bytes true
shown_none asked bytes none = record { shown = []; are_shown = none; kept = []; are_kept = tt; accepts = refl; written = sym (append-nil bytes) }

pub kept_answer : (kept : List Kept) (texts : List (List ℕ)) → all_accepted kept ≡ is_accepted (answer_with kept texts)
kept_answer kept texts = accepts (all_accepted kept) where
  accepts : (b : Bool) → b ≡ is_accepted (cond b (Accepted texts) (Rejected texts))
  accepts true = refl
  accepts false = refl

written_answer_with : (kept : List Kept) (texts : List (List ℕ)) → flat_map written_text texts ≡ written_answer (answer_with kept texts)
written_answer_with kept texts = written (all_accepted kept) where
  written : (b : Bool) → flat_map written_text texts ≡ written_answer (cond b (Accepted texts) (Rejected texts))
  written true = refl
  written false = refl

-- what is written around the texts for the candidates makes the texts of the answer
written_around : (form : Form) (asked : Asked) (old : List ℕ) (texts : List (List ℕ))
    → ((old ++ opening form asked) ++ flat_map (written_as form) texts) ++ closing form ≡ old ++ flat_map written_text (texts_for form asked texts)
written_around Located asked old texts = append-nil ((old ++ []) ++ flat_map written_text texts) ∙ ap (λ before. before ++ flat_map written_text texts) (append-nil old)
written_around Object asked old texts = append-nil ((old ++ []) ++ flat_map written_text texts) ∙ ap (λ before. before ++ flat_map written_text texts) (append-nil old)
written_around (Annotated all) asked old texts =
    let fields = flat_map (λ text. text) texts in
    let text = asked.prefix ++ (asked.line ++ fields) in
    ap (λ bytes. bytes ++ 10 ∷ []) (append_assoc old (asked.prefix ++ asked.line) fields ∙ ap (λ bytes. old ++ bytes) (append_assoc asked.prefix asked.line fields))
    ∙ append_assoc old text (10 ∷ []) ∙ ap (λ bytes. old ++ bytes) (sym (append-nil (written_text text)))

-- a line is answered, once what is shown and what is around it are written
pub answer_written : (asked : Asked) (old first second new : List ℕ) (accepted : Bool) → first ≡ old ++ opening asked.form asked
    → WritesShown (shows_all asked.form) asked first second accepted → new ≡ second ++ closing asked.form → AnswersLine asked old new accepted
answer_written asked old first second new accepted opened shown closed =
    let texts = kept_texts shown.kept in
    let all = texts_for asked.form asked texts in
    record {
      answer = answer_with shown.kept all;
      answers = record { shown = shown.shown; are_shown = shown.are_shown; kept = shown.kept; are_kept = shown.are_kept; is = refl };
      reported = shown.accepts ∙ kept_answer shown.kept all;
      written = closed
          ∙ ap (λ bytes. bytes ++ closing asked.form) (shown.written ∙ ap (λ bytes. bytes ++ flat_map (written_as asked.form) texts) opened)
          ∙ written_around asked.form asked old texts ∙ ap (λ bytes. old ++ bytes) (written_answer_with shown.kept all);
    }

-- the location of a line's first byte
pub first_location : (number : ℕ) → decimal number ++ codes ":1 " ≡ location_text number 0
first_location number = ap (λ one. decimal number ++ (codes ":" ++ (one ++ codes " "))) (sym (decimal_digit 1 (omega arith)))

cut_nowhere : (allow : Bool) (rest line : List ℕ) → rest ≡ [] → cond (not allow && bytes_eq rest (codes "/")) line line ≡ line
cut_nowhere true rest line none = refl
cut_nowhere false [] line none = refl
cut_nowhere false (byte ∷ rest) line none = cc

-- a line that is a vector is answered as it is
pub answered_whole : (asked : Asked) → IsAccepted asked.line → answered_text asked (record { offset = 0; text = asked.line }) ≡ asked.line
answered_whole asked accepted =
    let candidate : Candidate = record { offset = 0; text = asked.line } in
    ap (λ version. with_version version (decoded (answered_bytes asked candidate)))
    (cond-false (lacks_prefix asked.line) (option_or (linked_version (after_candidate asked.line candidate)) asked.assumed) None (accepted_has_prefix asked.line accepted))
    ∙ ap decoded (cut_nowhere asked.allow_incomplete (drop (length asked.line) asked.line) asked.line (drop_all (length asked.line) asked.line (omega arith)))
    ∙ written_decoded asked.line (accepted_whole asked.line accepted).written

-- what is asked of a line whose candidates are reported with their locations, where there is no gate
abbrev pub located : List ℕ → Scoring → Bool → Option Version → ℕ → List ℕ → Asked
located prefix scoring allow assumed number line =
    record { form = Located; prefix = prefix; scoring = scoring; allow_incomplete = allow; assumed = assumed; gate = None; number = number; line = line }

-- a line that is one canonical vector, once its location and its answer are written
pub canonical_reported : (prefix : List ℕ) (scoring : Scoring) (allow : Bool) (assumed : Option Version) (number : ℕ) (line : List ℕ) (published : Published) (old between middle new : List ℕ) → IsPublishedOfComplete scoring line published
    → between ≡ old ++ prefix → middle ≡ between ++ location_text number 0 → WritesAnswer (score_rule scoring allow) number line middle new true → AnswersLine (located prefix scoring allow assumed number line) old new true
canonical_reported prefix scoring allow assumed number line published old between middle new is first next written =
    let asked = located prefix scoring allow assumed number line in
    let candidate : Candidate = record { offset = 0; text = line } in
    let accepted : IsAccepted line = record { cvss = is.of.cvss; denoted = is.of.denoted } in
    let none : NoneFound [] = All-nil (λ each. ¬ (IsFound each.text)) in
    let found : IsFirstFound (candidates_of line) candidate [] = record { passed = []; is = accepted_alone line accepted; none = none; found = inl (inl accepted) } in
    let own = subst (λ bytes. WritesAnswer (score_rule scoring allow) number bytes middle new true) (sym (answered_whole asked accepted)) written in
    let placed = next ∙ ap (λ bytes. bytes ++ location_text number 0) first ∙ append_assoc old prefix (location_text number 0) in
    answer_written asked old old new new true (sym (append-nil old))
    (shown_all asked [] old new true
    (Reports-next asked (candidates_of line) [] candidate old old new true true (Reports-start asked old (candidates_of line) refl) found
    (kept_reported false false asked candidate old new new true (WritesReported-answer asked candidate old middle new new true placed own (λ before text is. is)) refl))
    none)
    (sym (append-nil new))
