-- Texts that are candidates as a whole, wherever they are.
use Rattle.std.specs.Prelude.{◌≡◌, ◌≢◌, ℕ, ◌||◌, ◌==◌, Bool, true, false, List, [], ◌∷◌, ◌++◌, codes, length, not, Contains}
use Rattle.std.specs.List.{list_all, suffix_len}
use Rattle.cvss_base.specs.Text.{has, slash}
use Rattle.cvss_matches.specs.Matches.{label_of, candidates_of}
use Rattle.cvss_matches.specs.Parts.{backslash, begins_like, is_run_byte, is_vector_byte, without_dividers}

-- the letters `CVSS`, each in either case, are in the text, after its first byte
abbrev pub has_second_prefix : List ℕ → Bool
has_second_prefix [] = false
has_second_prefix (byte ∷ rest) = begins_like (codes "CVSS") rest || has_second_prefix rest

-- the text has bytes, with all of which vectors are written, and of which one is a slash; `CVSS` is nowhere after its
-- first byte, it has no label before a vector, and it does not end with one of `.`, `/` and `:`
pub record IsWhole (text : List ℕ) : Type 0 where
  pub written : list_all is_vector_byte text ≡ true
  pub with_slash : has slash text ≡ true
  pub once : has_second_prefix text ≡ false
  pub unlabelled : label_of text ≡ 0
  pub ended : without_dividers text ≡ text
  pub some : text ≢ []

-- a byte with which no vector is written, or nothing
abbrev pub is_other : List ℕ → Bool
is_other [] = true
is_other (byte ∷ rest) = not (is_vector_byte byte)

-- a byte of a run, or a backslash, which is one before a slash
abbrev pub is_edge : ℕ → Bool
is_edge byte = is_run_byte byte || (byte == backslash)

-- the text is empty or ends with another byte
abbrev pub EndsOutside : List ℕ → Type 0
EndsOutside text = suffix_len is_edge text ≡ 0

-- after such a byte and before one with which no vector is written, or the ends, the text is a candidate by itself
abbrev pub IsMatchedBetween : List ℕ → List ℕ → List ℕ → Type 0
IsMatchedBetween before text after = EndsOutside before → is_other after ≡ true
    → Contains (candidates_of (before ++ (text ++ after))) (record { offset = length before; text = text })
