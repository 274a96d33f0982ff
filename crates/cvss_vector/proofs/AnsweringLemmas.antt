-- What is written in answer to a line, where vectors may have to have all base metrics.
use Rattle.std.proofs.Common.{◌≡◌, ℕ, ℤ, Bool, true, false, [], ◌∷◌, ◌++◌, List, codes, refl, sym, ap, ◌∙◌, append_assoc}
use Rattle.cvss_base.specs.declared.severity.Severity.{Severity}
use Rattle.cvss_lines.specs.Answers.{WritesAnswer, written_text}
use Rattle.cvss_lines.proofs.TextsLemmas.{accepted_by, rejected_by}
use Rattle.cvss_vector.specs.Answers.{severity_by, score_and_severity, score_of_tenths, text_of, vector_answer}
use Rattle.cvss_vector.specs.Complete.{IsPublishedOfComplete, IsReadErrorBy}
use Rattle.cvss_vector.specs.Lines.{IsVectorOf, score_rule, vector_rule}
use Rattle.cvss_vector.specs.Published.{severity_within, score_line}
use Rattle.cvss_vector.specs.Reasons.{error_line, error_message}
use Rattle.cvss_vector.specs.Scores.{IsScoreAs}
use Rattle.cvss_vector.specs.declared.published.Published.{Published}
use Rattle.cvss_vector.specs.declared.rejection.ReadError.{ReadError}
use Rattle.cvss_vector.specs.declared.scoring.Scoring.{Scoring}
use Rattle.cvss_vector.specs.declared.vector.Cvss.{Cvss}
use Rattle.cvss_vector.specs.private.{IsPublishedTo}

-- a vector's text and the line of its score, one after the other, are the vector's answer
pub answer_written : (vector : Cvss) (published : Published) → severity_by vector ≡ severity_within published.bounds → (old half new line : List ℕ) → half ≡ old ++ text_of vector
    → line ≡ score_line published → new ≡ half ++ line → new ≡ old ++ written_text (vector_answer vector published.tenths)
answer_written vector published rated old half new line text said written =
    let line_of = λ (rating : ℤ → Severity). old ++ (text_of vector ++ (codes " " ++ (score_and_severity published.tenths (rating (score_of_tenths published.tenths)) ++ 10 ∷ []))) in
    written ∙ rw (text, said, append_assoc old (text_of vector) (score_line published)) (ap line_of (sym rated) ∙ simp append_assoc)

-- a vector and an error that are a line's, once they are written
module _ (scoring : Scoring) (IsVector : List ℕ → Cvss → Type 0) (IsError : List ℕ → ReadError → Type 0) (number : ℕ) (line old new : List ℕ) where
  pub vector_written : (vector : Cvss) (tenths : ℕ) → IsVector line vector → IsScoreAs scoring vector (score_of_tenths tenths)
      → new ≡ old ++ written_text (vector_answer vector tenths) → WritesAnswer (vector_rule scoring IsVector IsError) number line old new true
  vector_written vector tenths is scored written =
      accepted_by _ _ number line (vector_answer vector tenths) old new written
      (record { vector = vector; is_it = is; tenths = tenths; scored = scored; is = refl })

  pub error_written : (error : ReadError) → IsError line error → new ≡ old ++ error_line error → WritesAnswer (vector_rule scoring IsVector IsError) number line old new false
  error_written error is written =
      rejected_by _ _ number line (codes "error: " ++ error_message error) old new written (record { error = error; is_right = is; is = refl })

-- a line is answered once it is published
pub published_written : (scoring : Scoring) (allow : Bool) (number : ℕ) (line old : List ℕ) (is_accepted : Bool) (new : List ℕ)
    → IsPublishedTo scoring allow line old is_accepted new → WritesAnswer (score_rule scoring allow) number line old new is_accepted
published_written scoring allow number line old true new (canonical, published, is, appended) =
    let of = is.of in
    vector_written scoring (IsVectorOf allow) (IsReadErrorBy allow) number line old new of.cvss published.tenths
    (record { utf8 = of.utf8; denoted = of.denoted; complete = is.complete }) of.is.scored
    (answer_written of.cvss published of.is.rated old (old ++ canonical) new (score_line published) (ap (λ text. old ++ text) of.canonical_is) refl (appended ∙ sym (append_assoc old canonical (score_line published))))
published_written scoring allow number line old false new (error, is, appended) =
    error_written scoring (IsVectorOf allow) (IsReadErrorBy allow) number line old new error is appended

-- a canonical text whose vector lacks no base metric is answered by either rule
pub complete_written : (scoring : Scoring) (allow : Bool) (number : ℕ) (line : List ℕ) (published : Published) (old new : List ℕ) → IsPublishedOfComplete scoring line published
    → new ≡ old ++ (line ++ score_line published) → WritesAnswer (score_rule scoring allow) number line old new true
complete_written scoring true number line published old new is written =
    published_written scoring true number line old true new (line, published, record { of = is.of; complete = refl }, written)
complete_written scoring false number line published old new is written = published_written scoring false number line old true new (line, published, is, written)
