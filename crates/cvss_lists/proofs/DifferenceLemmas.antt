-- What is written of two vectors.
use Rattle.std.proofs.Common.{◌≡◌, ℕ, Bool, true, false, List, [], ◌∷◌, ◌++◌, Option, Some, None, codes, flat_map, refl, sym, ap, ◌∙◌, append_assoc, append-nil}
use Rattle.std.proofs.lemmas.Bool.{false≢true, true≢false}
use Rattle.std.proofs.lemmas.Grind.{flat_map-append}
use Rattle.cvss_base.specs.Version.{Version}
use Rattle.cvss_lines.specs.Answers.{is_accepted, written_answer, written_text}
use Rattle.cvss_lists.specs.Differences.{change_at, change_text, changes, changes_of, comparison, comparison_by, rated_text, versions_text}
use Rattle.cvss_lists.specs.private.Comparing.{WritesComparison, WritesLines}
use Rattle.cvss_vector.specs.Answers.{score_of_tenths}
use Rattle.cvss_vector.specs.Scores.{IsScoreAs}
use Rattle.cvss_vector.specs.declared.scoring.Scoring.{Scoring}
use Rattle.cvss_vector.specs.declared.vector.Cvss.{Cvss}

-- what is written of texts that several things give, by those that each gives
written_each : {X : Type 0} (texts : X → List (List ℕ)) (things : List X)
    → flat_map written_text (flat_map texts things) ≡ flat_map (λ thing. flat_map written_text (texts thing)) things
written_each texts [] = refl
written_each texts (thing ∷ things) =
    flat_map-append written_text (texts thing) (flat_map texts things)
    ∙ ap (λ more. flat_map written_text (texts thing) ++ more) (written_each texts things)

-- the changes are written once those of each metric are
pub changes_written : {V K : Type 0} (version : Version V K) (before after : V) (old new : List ℕ)
    → new ≡ old ++ flat_map (λ kind. flat_map written_text (change_at version before after kind)) version.printed
    → new ≡ old ++ flat_map written_text (changes version before after)
changes_written version before after old new written =
    written ∙ ap (λ bytes. old ++ bytes) (sym (written_each (change_at version before after) version.printed))

-- what is written of the lines of an answer and of one more
lines_written : (lines : List (List ℕ)) (line : List ℕ) → flat_map written_text (lines ++ line ∷ []) ≡ flat_map written_text lines ++ written_text line
lines_written lines line =
    flat_map-append written_text lines (line ∷ []) ∙ ap (λ more. flat_map written_text lines ++ more) (append-nil (written_text line))

-- two vectors are compared once it is written in what they differ, or that their versions do
module _ (scoring : Scoring) (before after : Cvss) (tenths tenths' : ℕ) (scored : IsScoreAs scoring before (score_of_tenths tenths)) (scored' : IsScoreAs scoring after (score_of_tenths tenths')) (old middle new : List ℕ) where
  compared : (accepted : Bool) → accepted ≡ is_accepted (comparison before after tenths tenths') → new ≡ old ++ written_answer (comparison before after tenths tenths')
      → WritesComparison scoring before after old new accepted
  compared accepted reported written = record {
    answer = comparison before after tenths tenths';
    compares = record { tenths = tenths; scored = scored; tenths' = tenths'; scored' = scored'; is = refl };
    reported = reported;
    written = written;
  }

  pub scores_written : (found : Option (List (List ℕ))) → changes_of before after ≡ found → WritesLines found old middle true
      → new ≡ middle ++ written_text (change_text (codes "score") (rated_text before tenths) (rated_text after tenths'))
      → WritesComparison scoring before after old new true
  scores_written None is lines written = absurd (true≢false lines.0)
  scores_written (Some lines) is same written =
      let scores = change_text (codes "score") (rated_text before tenths) (rated_text after tenths') in
      compared true (ap (λ found. is_accepted (comparison_by found before after tenths tenths')) (sym is))
      (written ∙ ap (λ bytes. bytes ++ written_text scores) same.1 ∙ append_assoc old (flat_map written_text lines) (written_text scores)
      ∙ ap (λ bytes. old ++ bytes) (sym (lines_written lines scores))
      ∙ ap (λ found. old ++ written_answer (comparison_by found before after tenths tenths')) (sym is))

  pub versions_written : (found : Option (List (List ℕ))) → changes_of before after ≡ found → WritesLines found old middle false
      → new ≡ middle ++ written_text (versions_text before after) → WritesComparison scoring before after old new false
  versions_written None is lines written =
      compared false (ap (λ found. is_accepted (comparison_by found before after tenths tenths')) (sym is))
      (written ∙ ap (λ bytes. bytes ++ written_text (versions_text before after)) lines.1
      ∙ ap (λ bytes. old ++ bytes) (sym (append-nil (written_text (versions_text before after))))
      ∙ ap (λ found. old ++ written_answer (comparison_by found before after tenths tenths')) (sym is))
  versions_written (Some lines) is same written = absurd (false≢true same.0)

-- why a text is no vector is written once its parts are
pub no_vector_written : (old which middle before why new : List ℕ) → before ≡ (old ++ which) ++ middle → new ≡ before ++ (why ++ 10 ∷ [])
    → new ≡ old ++ written_text (which ++ middle ++ why)
no_vector_written old which middle before why new begun written =
    written ∙ ap (λ bytes. bytes ++ (why ++ 10 ∷ [])) (begun ∙ append_assoc old which middle)
    ∙ append_assoc old (which ++ middle) (why ++ 10 ∷ []) ∙ ap (λ more. old ++ more) (sym (append_assoc (which ++ middle) why (10 ∷ [])))
