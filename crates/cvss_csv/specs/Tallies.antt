-- The texts of the vectors that are found in a record, counted or kept one after another.
use Rattle.std.specs.Prelude.{◌≡◌, ℕ, List, [], ◌∷◌, ◌++◌, All, map, None, Option, Some}
use Rattle.std.specs.Global.{Vec}
use Rattle.cvss_vector.specs.Answers.{text_of}
use Rattle.cvss_vector.specs.Dispatch.{DenotesCvss}
use Rattle.cvss_vector.specs.declared.vector.Cvss.{Cvss}
use Rattle.cvss_csv.specs.Cells.{AreAllEqual}
use Rattle.cvss_csv.specs.Rows.{AreDifferent}
use Rattle.cvss_csv.specs.declared.different.Different.{Different}
use Rattle.cvss_csv.specs.declared.different.Kept.{Kept}
use Rattle.cvss_csv.specs.declared.tally.Count.{Count}
use Rattle.cvss_csv.specs.declared.tally.Count.TheVariants as count
use Rattle.cvss_csv.specs.declared.tally.Tally.{Tally}

-- the count is that of these texts, of which this is the first
abbrev pub IsCountOf : Count → List ℕ → List (List ℕ) → Type 0
IsCountOf count.None first texts = texts ≡ []
IsCountOf count.One first texts = (more : List (List ℕ)) × (texts ≡ first ∷ more) × AreAllEqual first more
IsCountOf count.Several first texts = (more : List (List ℕ)) × (texts ≡ first ∷ more) × ¬ (AreAllEqual first more)

abbrev pub IsTally : Tally → List (List ℕ) → Type 0
IsTally tally texts = IsCountOf tally.count tally.first.items texts

-- the canonical text of the one vector that a text denotes, if it denotes one
abbrev pub IsCanonicalOf : Option (Vec ℕ) → List ℕ → Type 0
IsCanonicalOf None text = (cvss : Cvss) → ¬ (DenotesCvss text cvss)
IsCanonicalOf (Some canonical) text =
    (first : Cvss) × DenotesCvss text first × ((cvss : Cvss) → DenotesCvss text cvss → Some first ≡ Some cvss) × (canonical.items ≡ text_of first)

-- it is known which vector a text that is kept denotes
abbrev pub IsRead : Kept → Type 0
IsRead kept = IsCanonicalOf kept.canonical kept.text.items

-- the texts that are kept
abbrev pub kept_in : List Kept → List (List ℕ)
kept_in all = map (λ kept. kept.text.items) all

-- kept are those of these texts that count as one vector with none before them
pub record IsKept (different : Different) (texts : List (List ℕ)) : Type 0 where
  pub are : AreDifferent [] texts (kept_in different.kept.items)
  pub read : All IsRead different.kept.items

-- these texts are found after whatever were that a note is of
abbrev pub Adds : {N : Type 0} → (N → List (List ℕ) → Type 0) → List (List ℕ) → N → N → Type 0
Adds IsOf own old new = (texts : List (List ℕ)) → IsOf old texts → IsOf new (texts ++ own)
