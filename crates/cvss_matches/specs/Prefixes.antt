-- The prefixes of vectors for which there is a hint.
use Rattle.std.specs.Prelude.{ℕ, ◌&&◌, ◌||◌, Bool, List, codes, nat_eq, not}
use Rattle.std.specs.List.{starts_with}
use Rattle.cvss_matches.specs.Parts.{begins_with_prefix}

-- the text begins with the prefix of a vector that is written in another way than `CVSS:3.1/`, as in another case or
-- without its colon; percent-encoded it is `CVSS%3A3.1%2F`, which is no other way
abbrev pub has_loose_prefix : List ℕ → Bool
has_loose_prefix text =
    begins_with_prefix text && not (starts_with nat_eq text (codes "CVSS:") || starts_with nat_eq text (codes "CVSS%"))
