-- What the private code cuts and passes over. No public clause cites it.
use Rattle.std.specs.Prelude.{◌≡◌, ℕ, suc, ◌==◌, ◌||◌, Bool, List, [], ◌∷◌, ◌++◌, if◌then◌else◌}
use Rattle.std.specs.List.{list_any}
use Rattle.cvss_base.specs.Text.{slash}
use Rattle.cvss_matches.specs.Matches.{Candidate}
use Rattle.cvss_matches.specs.CandidatesLeft.{NoneFound}
use Rattle.cvss_matches.specs.Parts.{begins_part, percent}

-- how many bytes of a text are before its first cut
abbrev pub uncut_length : List ℕ → ℕ
uncut_length [] = 0
uncut_length (byte ∷ rest) = if begins_part (byte ∷ rest) then 0 else suc (uncut_length rest)

-- a byte that each candidate has that is found: a slash or a `%`
abbrev pub is_mark : ℕ → Bool
is_mark byte = (byte == slash) || (byte == percent)

abbrev pub has_mark : List ℕ → Bool
has_mark text = list_any is_mark text

-- after some candidates, none of which is found
pub record Passes (candidates left : List Candidate) : Type 0 where
  pub passed : List Candidate
  pub is : candidates ≡ passed ++ left
  pub none : NoneFound passed
