-- The rows of vectors that are scored with an organisation's own environmental metrics: CVSS v4.0
-- specification, sections 4 and 8.2.
use Rattle.std.specs.Prelude.{◌≡◌, ℕ, List, [], ◌∷◌, IsPermutation, IsSorted, string_bytes, ⊤}
use Rattle.std.specs.declared.cmp.Ordering.{Ordering}
use Rattle.cvss_vector.specs.v4.Merging.{effective_of}
use Rattle.cvss_vector.specs.v4.Overriding.{AreOverrides, IsOverridden}
use Rattle.cvss_score.specs.Ranking.{rank_order}
use Rattle.cvss_score.specs.v4.Scores.{IsScore}
use Rattle.cvss_base.specs.Tenths.{IsInTenths, IsFromZeroToTen}
use Rattle.cvss_vector.specs.declared.v4.vector.Vector.{Vector}
use Rattle.cvss_vector.specs.v4.Vector.{v4}
use Rattle.cvss_base.specs.Version.{canonical_text, Denotes, IsWellFormed}
use Rattle.cvss_vector.specs.declared.v4.triage.row.Row.{Row}

-- the row has the text as it was given, and the canonical text and the score of the vector, which is a
-- whole number of tenths from 0 to 10
pub record IsRowOf (text : List ℕ) (vector : Vector) (row : Row) : Type 0 where
  pub text_is : string_bytes row.text ≡ text
  pub scored_is : string_bytes row.scored ≡ canonical_text v4 vector
  pub score_is : IsInTenths (IsScore (effective_of vector)) row.score
  pub range : IsInTenths IsFromZeroToTen row.score

-- the row of a text, whose vector is scored with the overrides in place
pub record IsRow (overrides : Vector) (text : List ℕ) (row : Row) : Type 0 where
  pub vector : Vector
  pub denoted : Denotes v4 text vector
  pub well_formed : IsWellFormed v4 vector
  pub scored : Vector
  pub overridden : IsOverridden vector overrides scored
  pub is : IsRowOf text scored row

-- each text has its row, in the order of the texts
abbrev pub AreRows : Vector → List (List ℕ) → List Row → Type 0
AreRows overrides [] [] = ⊤
AreRows overrides [] (row ∷ rows) = ⊥
AreRows overrides (text ∷ texts) [] = ⊥
AreRows overrides (text ∷ texts) (row ∷ rows) = IsRow overrides text row × AreRows overrides texts rows

-- the order of rows: a higher score first, and of one score by the bytes of the texts
abbrev pub row_order : Row → Row → Ordering
row_order = rank_order (λ row. row.score) (λ row. string_bytes row.text)

-- the rows are one a text, with the overrides in place, in order
pub record AreRanked (texts overrides : List (List ℕ)) (rows : List Row) : Type 0 where
  pub vector : Vector
  pub are_overrides : AreOverrides overrides vector
  pub in_turn : List Row
  pub are_rows : AreRows vector texts in_turn
  pub same_rows : IsPermutation in_turn rows
  pub in_order : IsSorted row_order rows

-- two rows have the same texts and the same score
pub record AreTheSame (x y : Row) : Type 0 where
  pub text : string_bytes x.text ≡ string_bytes y.text
  pub scored : string_bytes x.scored ≡ string_bytes y.scored
  pub score : x.score ≡ y.score
