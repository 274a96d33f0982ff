-- What a command has read, written and reported.
use Rattle.std.specs.Prelude.{ℕ, List, Option}
use Rattle.cvss_frame.specs.Reports.{Reported}

-- the bytes of each file, those that standard input still has, without a byte-order mark, and those that standard output has, where they are known, and
-- what is reported
pub record State : Type 0 where
  pub contents : List ℕ → Option (List ℕ)
  pub unread : Option (List ℕ)
  pub written : Option (List ℕ)
  pub reported : Reported

-- nothing to prove: a type of streams that names these functions carries them, so that the state of a value follows from it
abbrev pub HasState : {I O E : Type 0} → (I → Option (List ℕ)) → (O → Option (List ℕ)) → (E → Option (List ℕ)) → Type 0
HasState remaining written reports = Unit {0}
