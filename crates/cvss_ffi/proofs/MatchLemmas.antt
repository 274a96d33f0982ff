-- What a loop of calls finds.
use Rattle.std.proofs.Common.{ℕ, List, [], ◌∷◌}
use Rattle.cvss_matches.specs.Matches.{AreFound, Candidate}
use Rattle.cvss_matches.specs.CandidatesLeft.{candidates_after}
use Rattle.cvss_matches.proofs.FoundLemmas.{AreFound-first, AreFound-none}
use Rattle.cvss_ffi.specs.Matches.{AreFoundInTurn}

pub found_in_turn : (text : List ℕ) (from : ℕ) (found : List Candidate) → AreFoundInTurn text from found → AreFound (candidates_after text from) found
found_in_turn text from [] none = AreFound-none (candidates_after text from) none
found_in_turn text from (one ∷ more) (next, first, rest) =
    AreFound-first (candidates_after text from) (candidates_after text next) one more first (found_in_turn text next more rest)
