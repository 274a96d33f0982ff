-- The candidates of vectors in a text of any bytes, each with its offset, and which of them are found.
use Rattle.std.specs.Prelude.{◌≡◌, ℕ, ◌+◌, ◌⊎◌, ◌&&◌, ◌||◌, Bool, true, List, [], ◌∷◌, drop, if◌then◌else◌, length, ⊤, unwrap_or}
use Rattle.cvss_vector.specs.Dispatch.{DenotesCvss}
use Rattle.cvss_vector.specs.declared.vector.Cvss.{Cvss}
use Rattle.cvss_matches.specs.Parts.{begins_exactly, begins_loosely, begins_with_prefix, has_like_any, is_encoded_v2, label_length, lacks_prefix, slashes, without_dividers, parts_of, unencoded}

-- a candidate: the offset of its first byte, counted from 0, and its bytes
pub record Candidate : Type 0 where
  pub offset : ℕ
  pub text : List ℕ

-- how many bytes are before a candidate in these: a label, where they do not begin with a prefix
abbrev pub label_of : List ℕ → ℕ
label_of text = if begins_with_prefix text then 0 else unwrap_or (label_length text) 0

-- the candidate without its label
abbrev pub without_label : ℕ → List ℕ → Candidate
without_label offset text = record { offset = offset + label_of text; text = drop (label_of text) text }

-- the candidate of a part that begins at this offset
abbrev pub candidate_of : ℕ → List ℕ → Candidate
candidate_of offset part = without_label offset (without_dividers (unencoded part))

-- the candidates of the parts of a text, of which the first part begins at this offset
abbrev pub candidates_from : ℕ → List (List ℕ) → List Candidate
candidates_from offset [] = []
candidates_from offset (part ∷ parts) = candidate_of offset part ∷ candidates_from (offset + length part) parts

-- the candidates of a text
abbrev pub candidates_of : List ℕ → List Candidate
candidates_of text = candidates_from 0 (parts_of text)

-- the text is accepted as a vector
pub record IsAccepted (text : List ℕ) : Type 0 where
  pub cvss : Cvss
  pub denoted : DenotesCvss text cvss

-- the text was meant as a vector: it begins with `CVSS:` and has a slash, percent-encoded or not
abbrev pub is_meant_exactly : List ℕ → Bool
is_meant_exactly text = begins_exactly text && has_like_any slashes text

-- or it begins as a vector whose prefix is written loosely, as one without its prefix, or as an encoded one of v2
abbrev pub is_meant_loosely : List ℕ → Bool
is_meant_loosely text = begins_loosely text || (lacks_prefix text || is_encoded_v2 text)

-- a candidate that is accepted, or that was meant exactly so
abbrev pub IsCertain : List ℕ → Type 0
IsCertain text = IsAccepted text ⊎ (is_meant_exactly text ≡ true)

-- a candidate is found that is accepted, or was meant as a vector
abbrev pub IsFound : List ℕ → Type 0
IsFound text = IsCertain text ⊎ (is_meant_loosely text ≡ true)

-- these are exactly the candidates of a list that are found, in their order
abbrev pub AreFound : List Candidate → List Candidate → Type 0
AreFound [] [] = ⊤
AreFound [] (found ∷ more) = ⊥
AreFound (candidate ∷ candidates) [] = ¬ (IsFound candidate.text) × AreFound candidates []
AreFound (candidate ∷ candidates) (found ∷ more) =
    (IsFound candidate.text × (found ≡ candidate) × AreFound candidates more)
    ⊎ (¬ (IsFound candidate.text) × AreFound candidates (found ∷ more))
