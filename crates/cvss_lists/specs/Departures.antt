-- What a version's standard does not allow of the text of a vector, although readers may accept it: v3.0 and v3.1
-- specifications, section 6 (metrics in any order, abbreviations as listed); v4.0 specification, section 7 (also in the order
-- of Table 23). A text of CVSS v2 that is accepted departs in nothing.
use Rattle.std.specs.Prelude.{◌≡◌, ◌⊎◌, ℕ, Bool, not, List, [], ◌∷◌, ◌++◌, codes, drop, Option, Some, None, bytes_eq, if◌then◌else◌, ⊤}
use Rattle.std.specs.Char.{is_ascii_lowercase}
use Rattle.std.specs.List.{after_first, find, list_any, zip}
use Rattle.cvss_base.specs.Text.{name_part, pieces}
use Rattle.cvss_lines.specs.Answers.{Answer, Rejected, Rule}
use Rattle.cvss_lists.specs.declared.departure.Departure.{Departure}
use Rattle.cvss_lists.specs.declared.departure.Departure.TheVariants.{LetterCase, OutOfOrder}
use Rattle.cvss_vector.specs.Answers.{text_of}
use Rattle.cvss_vector.specs.Dispatch.{DenotesCvss}
use Rattle.cvss_vector.specs.declared.vector.Cvss.{Cvss}
use Rattle.cvss_vector.specs.declared.vector.Cvss.TheVariants.{CvssV20, CvssV30, CvssV31, CvssV40}

-- the piece is one of these
abbrev pub is_in : List ℕ → List (List ℕ) → Bool
is_in piece parts = list_any (λ each. bytes_eq each piece) parts

-- those of the pieces that stand after this one
abbrev pub those_after : List ℕ → List (List ℕ) → List (List ℕ)
those_after piece parts = after_first (λ each. bytes_eq each piece) parts

-- each piece with the next
abbrev pub neighbours : List (List ℕ) → List (List ℕ × List ℕ)
neighbours parts = zip parts (drop 1 parts)

-- the canonical text of a vector has its components as the specification spells them, in the order of the specification;
-- this is the first piece that is none of its pieces
abbrev pub first_unlisted : List (List ℕ) → List (List ℕ) → Option (List ℕ)
first_unlisted canonical parts = find (λ piece. not (is_in piece canonical)) parts

-- and the first two neighbours of which it has the second not after the first
abbrev pub first_exchanged : List (List ℕ) → List (List ℕ × List ℕ) → Option (List ℕ × List ℕ)
first_exchanged canonical pairs = find (λ pair. not (is_in pair.1 (those_after pair.0 canonical))) pairs

-- every component is spelled as the specification lists it
abbrev pub IsListed : Cvss → List ℕ → Type 0
IsListed cvss text = first_unlisted (pieces (text_of cvss)) (pieces text) ≡ None

-- and stands in the order of the specification
abbrev pub IsOrdered : Cvss → List ℕ → Type 0
IsOrdered cvss text = first_exchanged (pieces (text_of cvss)) (neighbours (pieces text)) ≡ None

-- the version's standard allows the text of the vector
abbrev pub MeetsStandard : Cvss → List ℕ → Type 0
MeetsStandard (CvssV20 vector) text = ⊤
MeetsStandard (CvssV30 vector) text = IsListed (CvssV30 vector) text
MeetsStandard (CvssV31 vector) text = IsListed (CvssV31 vector) text
MeetsStandard (CvssV40 vector) text = IsListed (CvssV40 vector) text × IsOrdered (CvssV40 vector) text

-- this component is the first that is not spelled as listed
abbrev pub IsUnlisted : Cvss → List ℕ → List ℕ → Type 0
IsUnlisted cvss text piece = first_unlisted (pieces (text_of cvss)) (pieces text) ≡ Some piece

-- all are, and these are the names of the first two neighbours that are not in order
pub record AreNamesOf (found : Option (List ℕ × List ℕ)) (metric after : List ℕ) : Type 0 where
  pub pair : List ℕ × List ℕ
  pub is_found : found ≡ Some pair
  pub metric_is : metric ≡ name_part pair.1
  pub after_is : after ≡ name_part pair.0

abbrev pub IsExchanged : Cvss → List ℕ → List ℕ → List ℕ → Type 0
IsExchanged cvss text metric after =
    IsListed cvss text × AreNamesOf (first_exchanged (pieces (text_of cvss)) (neighbours (pieces text))) metric after

-- what is not allowed of the text of the vector
abbrev pub IsDeparture : Cvss → List ℕ → Departure → Type 0
IsDeparture (CvssV20 vector) text departure = ⊥
IsDeparture (CvssV30 vector) text (LetterCase piece) = IsUnlisted (CvssV30 vector) text piece.now
IsDeparture (CvssV31 vector) text (LetterCase piece) = IsUnlisted (CvssV31 vector) text piece.now
IsDeparture (CvssV40 vector) text (LetterCase piece) = IsUnlisted (CvssV40 vector) text piece.now
IsDeparture (CvssV30 vector) text (OutOfOrder metric after) = ⊥
IsDeparture (CvssV31 vector) text (OutOfOrder metric after) = ⊥
IsDeparture (CvssV40 vector) text (OutOfOrder metric after) = IsExchanged (CvssV40 vector) text metric.now after.now

-- the text denotes a vector, and this is not allowed of it
pub record Departs (text : List ℕ) (departure : Departure) : Type 0 where
  pub cvss : Cvss
  pub denoted : DenotesCvss text cvss
  pub is : IsDeparture cvss text departure

-- the standard allows the text, if it denotes a vector
abbrev pub MeetsAll : List ℕ → Type 0
MeetsAll text = (cvss : Cvss) → DenotesCvss text cvss → MeetsStandard cvss text

-- a component that is read in any letter case has letters in lower case where all are to be in upper case, or the other way
-- round in the values of the metric U of CVSS v4.0
abbrev pub letter_case_text : List ℕ → List ℕ
letter_case_text piece = (if list_any is_ascii_lowercase piece then codes "lower case: " else codes "upper case: ") ++ piece

-- a metric stands right after one that is to be behind it
abbrev pub order_text : List ℕ → List ℕ → List ℕ
order_text metric after = codes "metrics out of order: " ++ metric ++ codes " after " ++ after

-- what is said of a departure
abbrev pub departure_text : Departure → List ℕ
departure_text (LetterCase piece) = letter_case_text piece.now
departure_text (OutOfOrder metric after) = order_text metric.now after.now

-- the answer is what is not allowed of the line
pub record IsDeparted (line : List ℕ) (answer : Answer) : Type 0 where
  pub departure : Departure
  pub departs : Departs line departure
  pub is : answer ≡ Rejected ((codes "error: " ++ departure_text departure) ∷ [])

-- a line that the standard allows is answered by the rule, and another by what is not allowed
abbrev pub strict_rule : Rule → Rule
strict_rule rule number line answer = IsDeparted line answer ⊎ (MeetsAll line × rule number line answer)
