-- What answers a line that is one vector and nothing else.
use Rattle.std.proofs.Common.{◌≡◌, ℕ, Bool, true, false, cond, List, [], ◌∷◌, Option, inl, inr, refl, sym, ap, ◌∙◌, subst, append-nil}
use Rattle.std.proofs.Math.Bool.{and-true}
use Rattle.cvss_vector.specs.Lines.{score_rule}
use Rattle.cvss_vector.specs.declared.scoring.Scoring.{Scoring}
use Rattle.cvss_vector.specs.declared.setting.Version.{Version}
use Rattle.cvss_lines.specs.Answers.{Answer, Accepted, Rejected, is_accepted, texts_of}
use Rattle.cvss_matches.specs.Matches.{AreFound, Candidate, IsAccepted, candidates_of}
use Rattle.cvss_matches.specs.Answers.{AreKept, IsAnswerTo, Kept, all_accepted, answer_with, kept_texts}
use Rattle.cvss_matches.specs.laws.Alone.{ReportsOfAll}
use Rattle.cvss_matches.proofs.ReportingLemmas.{answered_whole, kept_answer, located}

texts_of_either : (b : Bool) (texts : List (List ℕ)) → texts_of (cond b (Accepted texts) (Rejected texts)) ≡ texts
texts_of_either true texts = refl
texts_of_either false texts = refl

kept_alone : (prefix : List ℕ) (scoring : Scoring) (allow : Bool) (assumed : Option Version) (number : ℕ) (line : List ℕ) (kept : List Kept) (answer : Answer) → IsAccepted line
    → AreKept (located prefix scoring allow assumed number line) (record { offset = 0; text = line } ∷ []) kept → answer ≡ answer_with kept (kept_texts kept)
    → ReportsOfAll scoring allow prefix number line answer
kept_alone prefix scoring allow assumed number line [] answer accepted are is = absurd are
kept_alone prefix scoring allow assumed number line (one ∷ []) answer accepted ((reported, is_reported, same), end) is = record {
  own = is_reported.answer;
  answers = subst (λ bytes. score_rule scoring allow number bytes is_reported.answer) (answered_whole (located prefix scoring allow assumed number line) accepted) is_reported.answers;
  text = is_reported.text;
  one_text = is_reported.one_text;
  texts = ap texts_of is ∙ texts_of_either (all_accepted (one ∷ [])) (kept_texts (one ∷ [])) ∙ append-nil one.texts
      ∙ ap (λ (each : Kept). each.texts) same ∙ ap (λ text. text ∷ []) is_reported.is;
  accepted = ap is_accepted is ∙ sym (kept_answer (one ∷ []) (kept_texts (one ∷ []))) ∙ and-true one.accepts ∙ ap (λ (each : Kept). each.accepts) same ∙ is_reported.accepted;
}
kept_alone prefix scoring allow assumed number line (one ∷ other ∷ more) answer accepted are is = absurd are.1

found_alone : (line : List ℕ) (found : List Candidate) → IsAccepted line → AreFound (record { offset = 0; text = line } ∷ []) found → found ≡ record { offset = 0; text = line } ∷ []
found_alone line [] accepted are = absurd (are.0 (inl (inl accepted)))
found_alone line (one ∷ []) accepted (inl (is, same, none)) = rw same refl
found_alone line (one ∷ other ∷ more) accepted (inl (is, same, none)) = absurd none
found_alone line (one ∷ more) accepted (inr (not_found, are)) = absurd (not_found (inl (inl accepted)))

pub answered_alone : (prefix : List ℕ) (scoring : Scoring) (allow : Bool) (assumed : Option Version) (number : ℕ) (line : List ℕ) (answer : Answer) → (candidates_of line ≡ record { offset = 0; text = line } ∷ []) → IsAccepted line
    → IsAnswerTo (located prefix scoring allow assumed number line) answer → ReportsOfAll scoring allow prefix number line answer
answered_alone prefix scoring allow assumed number line answer one accepted answers =
    let found = found_alone line answers.shown accepted (subst (λ candidates. AreFound candidates answers.shown) one answers.are_shown) in
    kept_alone prefix scoring allow assumed number line answers.kept answer accepted
    (subst (λ candidates. AreKept (located prefix scoring allow assumed number line) candidates answers.kept) found answers.are_kept) answers.is
