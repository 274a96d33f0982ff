-- In which metrics two vectors of one version differ, and what is said of it.
use Rattle.std.specs.Prelude.{◌≡◌, ◌⊎◌, ℕ, Bool, List, [], ◌∷◌, ◌++◌, codes, flat_map, bytes_eq, unwrap_or, Option, Some, None, if◌then◌else◌}
use Rattle.cvss_base.specs.Version.{Version, held}
use Rattle.cvss_vector.specs.Answers.{score_and_severity, score_of_tenths, severity_by}
use Rattle.cvss_vector.specs.Complete.{IsReadErrorBy}
use Rattle.cvss_vector.specs.Lines.{IsVectorOf}
use Rattle.cvss_vector.specs.Reasons.{error_message}
use Rattle.cvss_vector.specs.Scores.{IsScoreAs, version_of, version_text}
use Rattle.cvss_vector.specs.declared.rejection.ReadError.{ReadError}
use Rattle.cvss_vector.specs.declared.scoring.Scoring.{Scoring}
use Rattle.cvss_vector.specs.declared.vector.Cvss.{Cvss}
use Rattle.cvss_vector.specs.declared.vector.Cvss.TheVariants.{CvssV20, CvssV30, CvssV31, CvssV40}
use Rattle.cvss_vector.specs.v2.Vector.{v2}
use Rattle.cvss_vector.specs.v3.Vector.{v3}
use Rattle.cvss_vector.specs.v4.Vector.{v4}
use Rattle.cvss_frame.specs.Names.{shown_name}
use Rattle.cvss_lines.specs.Answers.{Answer, Accepted, Rejected, Rule}

-- what is shown of a metric: the spelling of its value, or a hyphen, which spells no value, where the vector lacks the metric
abbrev pub value_text : {V K : Type 0} → Version V K → V → K → List ℕ
value_text version vector kind = unwrap_or (held version vector kind) (codes "-")

-- one text and the one that replaces it
abbrev pub change_text : List ℕ → List ℕ → List ℕ → List ℕ
change_text name before after = name ++ codes ": " ++ before ++ codes " -> " ++ after

-- what is said of a metric: nothing where its value is the same
abbrev pub change_if : List ℕ → List ℕ → List ℕ → List (List ℕ)
change_if name before after = if bytes_eq before after then [] else (change_text name before after ∷ [])

abbrev pub change_at : {V K : Type 0} → Version V K → V → V → K → List (List ℕ)
change_at version before after kind = change_if (version.name kind) (value_text version before kind) (value_text version after kind)

-- what is said of the metrics, in the order in which vectors are printed
abbrev pub changes : {V K : Type 0} → Version V K → V → V → List (List ℕ)
changes version before after = flat_map (change_at version before after) version.printed

-- of two vectors of one version
abbrev pub changes_of : Cvss → Cvss → Option (List (List ℕ))
changes_of (CvssV20 before) (CvssV20 after) = Some (changes v2 before after)
changes_of (CvssV30 before) (CvssV30 after) = Some (changes v3 before after)
changes_of (CvssV31 before) (CvssV31 after) = Some (changes v3 before after)
changes_of (CvssV40 before) (CvssV40 after) = Some (changes v4 before after)
changes_of _ _ = None

-- a score of so many tenths, and its severity
abbrev pub rated_text : Cvss → ℕ → List ℕ
rated_text vector tenths = score_and_severity tenths (severity_by vector (score_of_tenths tenths))

-- the versions differ
abbrev pub versions_text : Cvss → Cvss → List ℕ
versions_text before after =
    codes "error: different versions: " ++ version_text (version_of before) ++ codes " and " ++ version_text (version_of after)

-- the metrics in which two vectors of one version differ and then both scores, of so many tenths; vectors of different
-- versions are not compared
abbrev pub comparison_by : Option (List (List ℕ)) → Cvss → Cvss → ℕ → ℕ → Answer
comparison_by None before after tenths tenths' = Rejected (versions_text before after ∷ [])
comparison_by (Some lines) before after tenths tenths' =
    Accepted (lines ++ change_text (codes "score") (rated_text before tenths) (rated_text after tenths') ∷ [])

abbrev pub comparison : Cvss → Cvss → ℕ → ℕ → Answer
comparison before after = comparison_by (changes_of before after) before after

-- the answer compares two vectors, by their scores that are reported
pub record IsComparison (scoring : Scoring) (before after : Cvss) (answer : Answer) : Type 0 where
  pub tenths : ℕ
  pub scored : IsScoreAs scoring before (score_of_tenths tenths)
  pub tenths' : ℕ
  pub scored' : IsScoreAs scoring after (score_of_tenths tenths')
  pub is : answer ≡ comparison before after tenths tenths'

-- which of the two is no vector, and why, with escapes for characters that are not to be seen as themselves
abbrev pub no_vector_text : List ℕ → ReadError → List ℕ
no_vector_text which error = which ++ codes " vector: " ++ shown_name (codes "error: " ++ error_message error)

-- the answer is why a text denotes no vector, and which of the two it is
pub record IsNoVector (which : List ℕ) (allow_incomplete : Bool) (text : List ℕ) (answer : Answer) : Type 0 where
  pub error : ReadError
  pub is_right : IsReadErrorBy allow_incomplete text error
  pub is : answer ≡ Rejected (no_vector_text which error ∷ [])

-- a text denotes a vector, and the answer compares another one with it
pub record IsComparedWith (scoring : Scoring) (allow_incomplete : Bool) (before : Cvss) (second : List ℕ) (answer : Answer) : Type 0 where
  pub after : Cvss
  pub is_after : IsVectorOf allow_incomplete second after
  pub compared : IsComparison scoring before after answer

-- the answer to a vector and a text
abbrev pub IsDifferenceFrom : Scoring → Bool → Cvss → List ℕ → Answer → Type 0
IsDifferenceFrom scoring allow_incomplete before second answer =
    IsNoVector (codes "second") allow_incomplete second answer ⊎ IsComparedWith scoring allow_incomplete before second answer

-- the first text denotes a vector, and this is the answer to it and the second
pub record IsDifference (scoring : Scoring) (allow_incomplete : Bool) (first second : List ℕ) (answer : Answer) : Type 0 where
  pub before : Cvss
  pub is_before : IsVectorOf allow_incomplete first before
  pub is : IsDifferenceFrom scoring allow_incomplete before second answer

-- which answers two texts have, the second as a line of some number
abbrev pub difference_rule : Scoring → Bool → List ℕ → Rule
difference_rule scoring allow_incomplete first number second answer =
    IsNoVector (codes "first") allow_incomplete first answer ⊎ IsDifference scoring allow_incomplete first second answer
